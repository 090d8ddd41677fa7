use Rattle.rest_laws.proofs.CopiesKept.Contents.{run_contents}
use Rattle.rest_laws.proofs.copy_laws.copies_have_contents.Goals as goal

pub returns : goal.returns
returns c = λ config lines fit packs few. run_contents config lines fit packs few
