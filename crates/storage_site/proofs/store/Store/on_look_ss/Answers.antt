use Rattle.std.proofs.Common.{ℕ, List, [], ◌∷◌, ◌++◌, ap, ◌∙◌}
use Rattle.wire_messages.specs.declared.body.LookAnswer.{LookAnswer}
use Rattle.wire_messages.specs.declared.body.Body.TheVariants as body
use Rattle.role_steps.specs.Views.{packet}
use Rattle.role_steps.specs.Looks.{LookRequest}
use Rattle.role_steps.specs.Storage.{served_copy}
use Rattle.store_instances.specs.of_site_packs.Packs.{copy_at}
use Rattle.store_instances.specs.Stores.{store_of}
use Rattle.storage_site.proofs.Serves.{sends_store}
use Rattle.store_instances.proofs.Fits.{fit_at, memory_fit}
use Rattle.wire_messages.specs.declared.body.LookAnswer.{LookAnswer}
use Rattle.storage_site.proofs.store.Store.on_look_ss.Goals as goal

pub returns-clause-gives : goal.returns-clause-gives
returns-clause-gives g c =
    let image : List ℕ = (g.D.Disk.moment c.args.disk.now).seen in
    let served : LookAnswer = served_copy c.args.look.now.what c.args.serve (copy_at c.args.packs.now image c.args.look.now.file) in
    sends_store (packet c.args.frame.now c.args.us (body.LookDone c.args.look.now.call c.args.look.now.request c.args.look.now.take served) ∷ [])
    (store_of c.args.self.now c.args.packs.now image) (store_of c.args.self.now c.args.packs.now (g.D.Disk.moment c.served_copy.new.disk).seen) c.args.out.now c.send_look.new.out
    (ap (λ (m : List ℕ). store_of c.args.self.now c.args.packs.now m) c.in_ok-answer.ensures.disk.seen)
    (c.in_ok-send_look.ensures.packets
    ∙ ap (λ (a : LookAnswer). c.args.out.now.packets ++ (packet c.args.frame.now c.args.us (body.LookDone c.args.look.now.call c.args.look.now.request c.args.look.now.take a) ∷ []))
    (c.in_ok-answer.ensures.answer ∙ ap (λ (l : LookRequest). served_copy l.what c.args.serve (copy_at c.args.packs.now image l.file)) c.look.view_is))
    c.in_ok-send_look.ensures.records

pub returns-in_err-answer-clause-fit : goal.returns-in_err-answer-clause-fit
returns-in_err-answer-clause-fit g c = fit_at {S = LookAnswer} c.from_residual.result c.in_err-answer.field-0.0 c.from_residual.ensures.1 c.in_err-answer.ensures.fit

pub returns-in_err-send_look-clause-fit : goal.returns-in_err-send_look-clause-fit
returns-in_err-send_look-clause-fit g c = memory_fit c.from_residual-in_err-send_look.result c.from_residual-in_err-send_look.ensures.1
