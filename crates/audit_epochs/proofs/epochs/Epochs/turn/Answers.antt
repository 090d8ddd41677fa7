use Rattle.std.proofs.Common.{sym, ap, ◌∙◌}
use Rattle.std.specs.List.{find}
use Rattle.trace_book.specs.declared.descriptor.Beginning.{Beginning}
use Rattle.promises.specs.After.{is_epoch}
use Rattle.audit_epochs.specs.Changes.{turn_among}
use Rattle.audit_epochs.specs.Places.{turn_at}
use Rattle.audit_epochs.proofs.Turns.{turn_of_uses, turn_of_denied, turn_of_walks, turn_of_reopens, turn_of_frees}
use Rattle.audit_epochs.proofs.epochs.Epochs.turn.Goals as goal

pub returns-in_ok-turn-in-Uses : goal.returns-in_ok-turn-in-Uses
returns-in_ok-turn-in-Uses c =
    c.in_ok-turn-in-Uses.ensures.turn
    ∙ (ap (λ (b : Beginning). turn_at b c.args.words.now (find (is_epoch c.in-Uses.epoch) c.args.self.now)) c.in-Uses.is
    ∙ (turn_of_uses c.in-Uses.epoch c.in-Uses.inst c.args.words.now c.args.self.now c.turn_in.ensures.one
    ∙ ap (λ (b : Beginning). turn_among c.args.self.now b c.args.words.now) (sym c.in-Uses.is)))

pub returns-in-Denied : goal.returns-in-Denied
returns-in-Denied c = turn_of_denied c.in-Denied.why c.args.words.now c.args.self.now ∙ ap (λ (b : Beginning). turn_among c.args.self.now b c.args.words.now) (sym c.in-Denied.is)

pub returns-in-Walks : goal.returns-in-Walks
returns-in-Walks c = turn_of_walks c.in-Walks.call c.args.words.now c.args.self.now ∙ ap (λ (b : Beginning). turn_among c.args.self.now b c.args.words.now) (sym c.in-Walks.is)

pub returns-in-Reopens : goal.returns-in-Reopens
returns-in-Reopens c = turn_of_reopens c.in-Reopens.version c.in-Reopens.last c.args.words.now c.args.self.now ∙ ap (λ (b : Beginning). turn_among c.args.self.now b c.args.words.now) (sym c.in-Reopens.is)

pub returns-in-Frees : goal.returns-in-Frees
returns-in-Frees c = turn_of_frees c.args.words.now c.args.self.now ∙ ap (λ (b : Beginning). turn_among c.args.self.now b c.args.words.now) (sym c.in-Frees.is)
