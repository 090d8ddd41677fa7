use Rattle.std.proofs.Common.{[], ◌∷◌, ap, ◌∙◌}
use Rattle.role_steps.specs.Views.{Shown}
use Rattle.run_book.specs.Ledgers.{books}
use Rattle.world.specs.States.{state_of}
use Rattle.world.proofs.Events.{event_alone}
use Rattle.world.proofs.world.World.tell.Goals as goal

pub returns : goal.returns
returns c = λ config taken w sh. event_alone config taken w (state_of c.args.self.now) _ c.args.line [] (Shown c.args.what ∷ []) sh c.in_ok-note_told.ensures.config c.in_ok-note_told.ensures.places c.in_ok-note_told.ensures.cuts (c.in_ok-note_told.ensures.book ∙ ap (λ o. books c.args.line o.packets o.records c.args.self.now.book) c.in_ok-out.ensures)
