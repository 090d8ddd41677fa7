use Rattle.std.proofs.Common.{◌+◌, ◌-◌, ◌∙◌, ⊎_elim, sym, ap, arith}
use Rattle.std.proofs.lemmas.Bool.{cases_lt}
use Rattle.circuits.proofs.Cuts.{of_all_sites}
use Rattle.the_run.specs.Worlds.{boot_of}
use Rattle.world.specs.Reached.{place_of, boot_at}
use Rattle.world.proofs.Tables.{state_none}
use Rattle.world.proofs.open.are_told.Goals as goal

pub returns : goal.returns
returns c = λ yes. of_all_sites (boot_at c.args.places.now) c.args.boots.now c.told-boots (λ t l m. ⊎_elim
    (λ before. c.loop-at.invariant t l (omega (arith, before)))
    (λ behind. c.requires.none t (omega (arith, behind)) (omega (arith, m)) ∙ sym (ap (λ o. boot_of (place_of o)) (state_none c.args.places.now t (t - 1) (omega (arith, l)) (omega (arith, behind)))))
    (cases_lt t (c.args.sites + 1)))
