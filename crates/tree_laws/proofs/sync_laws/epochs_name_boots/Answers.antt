use Rattle.tree_laws.proofs.Syncs.Members.{inside_joined, members_name_boots}
use Rattle.tree_laws.proofs.sync_laws.epochs_name_boots.Goals as goal

pub returns : goal.returns
returns c = record {
  calls = λ config trace h e d m k are. members_name_boots config trace h e d m k are;
  joined = λ config trace h s e k. inside_joined config trace h s e k;
}
