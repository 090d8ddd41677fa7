use Rattle.std.proofs.Common.{Result, Ok, Err}
use Rattle.std.specs.Prelude.{OnErr}
use Rattle.locus_io.proofs.Pieces.{AppendsFront-after_all}
use Rattle.input_run.proofs.sending.send.Goals as goal

always : {T E : Type 0} (r : Result T E) (P : Type 0) → P → OnErr r P
always (Ok x) P p = tt
always (Err y) P p = p

pub returns-clause-err : goal.returns-clause-err
returns-clause-err g c = always c.flush.result _ (AppendsFront-after_all _ _ _ _ c.in_ok-give_all.ensures.ok c.flush.ensures.bytes)
