use Rattle.tree_laws.proofs.Caches.Staying.{stay_looked, stay_put}
use Rattle.tree_laws.proofs.cache_laws.pages_stay_right.Goals as goal

pub returns-clause-used : goal.returns-clause-used
returns-clause-used c = λ contents p pages right. stay_looked contents p pages right

pub returns-clause-put : goal.returns-clause-put
returns-clause-put c = λ contents p content pages right whole. stay_put contents p content pages right whole
