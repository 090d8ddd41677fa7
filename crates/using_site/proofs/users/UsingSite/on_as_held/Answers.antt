use Rattle.role_steps.specs.Using.{asks_held_number, on_as_held_of}
use Rattle.using_site.proofs.Awaited.{awaited, copied_taken, nothing_copied}
use Rattle.using_site.proofs.users.UsingSite.on_as_held.Goals as goal

pub returns-in-None : goal.returns-in-None
returns-in-None c = nothing_copied c.args.frame.now c.args.serial c.args.number c.args.self.now _ _ c.in-Some.key _ _ c.self.view_is c.as_slice.ensures.rows c.as_slice.ensures.rising c.in-Some.ensures (λ w h. c.in_ok-copied_by.ensures w h) c.in-None.is

pub returns-in-Some-2 : goal.returns-in-Some-2
returns-in-Some-2 c = awaited c.take.result (asks_held_number c.args.serial c.args.number) (λ o. on_as_held_of c.args.frame.now o c.args.self.now) c.args.self.now _ _ c.in-Some.key _ _ _ c.self.view_is c.as_slice.ensures.rows c.as_slice.ensures.rising c.in-Some.ensures
    (λ w e r h r' h'. copied_taken c.take.result c.args.frame.now w _ c.in-Some-2.bytes c.args.self.now _ _ _ (c.in_ok-copied_by.ensures w h) c.in-Some-2.is (c.take.ensures w r h))
