use Rattle.the_run.specs.Runs.{run_in}
use Rattle.rest_laws.proofs.Fits.Numbers.{stands_inode}
use Rattle.rest_laws.proofs.Fits.Tables.{rest_of}
use Rattle.rest_laws.proofs.fit_laws.files_have_inodes.Goals as goal

pub returns : goal.returns
returns c = λ config lines fit packs f stamp stands. stands_inode config f stamp (run_in config lines).trace (rest_of config lines fit packs).each stands
