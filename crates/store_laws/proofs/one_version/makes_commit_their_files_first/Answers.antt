use Rattle.store_laws.proofs.Holdings.OneVersionFirsts.{open_make_first}
use Rattle.store_laws.proofs.one_version.makes_commit_their_files_first.Goals as goal

pub returns : goal.returns
returns c = λ config trace e i x followed packs found make inside. open_make_first config trace packs followed e i x found make inside
