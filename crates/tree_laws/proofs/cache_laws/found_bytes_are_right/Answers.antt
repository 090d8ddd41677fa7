use Rattle.tree_laws.proofs.Caches.Finding.{found_right}
use Rattle.tree_laws.proofs.cache_laws.found_bytes_are_right.Goals as goal

pub returns : goal.returns
returns c = λ contents p content bytes pages right whole found. found_right contents p content whole pages right bytes found
