use Rattle.store_laws.proofs.Numbers.{used_so, so_used}
use Rattle.store_laws.proofs.laws.numbers_in_use_are_used.Goals as goal

pub returns : goal.returns
returns c = record {
  used = λ config trace h rests f frame s held group ino narrow k. used_so config trace h rests f frame s held group ino narrow k;
  in_use = λ config trace h rests f frame s held group ino narrow given k. so_used config trace h rests f frame s held group ino narrow given k;
}
