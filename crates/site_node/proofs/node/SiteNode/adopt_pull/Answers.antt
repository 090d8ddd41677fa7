use Rattle.std.proofs.Common.{ℕ, ◌++◌, ◌∷◌, [], refl, ap, ◌∙◌, ◌≢◌}
use Rattle.trace_book.specs.declared.record.Record.TheVariants as says
use Rattle.site_parts.specs.of_site_tables.Tables.{noting_own}
use Rattle.site_parts.specs.declared.fault.NodeFault.TheVariants.{NoMemory, NoNumber}
use Rattle.site_node.proofs.Adoptions.{adopted_moves}
use Rattle.site_parts.proofs.Cuts.{failed_still, pull_err, pull_failed, pull_ok, unread_adopt}
use Rattle.site_parts.specs.Faults.{fault_of_commit}
use Rattle.site_parts.proofs.Numbers.{commit_numbered, if_err, memory_numbered}
use Rattle.site_parts.proofs.Fits.{memory_fit}
use Rattle.site_node.proofs.Fitted.{commit_unfit, fault_at}
use Rattle.site_packs.specs.Packs.{groups_of}
use Rattle.site_node.specs.Fitting.{CanKeep}
use Rattle.site_node.specs.Views.{view_of}
use Rattle.site_node.proofs.Ticked.{has_room, keeps_laid}
use Rattle.site_node.proofs.node.SiteNode.adopt_pull.Goals as goal

pub returns-clause-step : goal.returns-clause-step
returns-clause-step g c = adopted_moves c.args.pull c.as_slice-numbers.result.now c.as_slice-bytes.result.now c.pages_brought-pages.result c.stamp_held-before.result c.args.self.now c.adopt.new.self c.adopted.new.self c.notes_own.new.tables (g.D.Disk.moment c.args.disk.now) (g.D.Disk.moment c.adopt.new.disk)
    (c.as_slice-numbers.ensures ∙ c.pages_brought-pages.ensures) c.as_slice-bytes.ensures c.pages_brought-pages.ensures (c.stamp_held-before.ensures (g.D.Disk.moment c.args.disk.now).seen c.requires.shown) c.in_ok-adopt.ensures.copies c.adopt.ensures.places c.in_ok-adopted.ensures
    (c.in_ok-notes_own.ensures ∙ ap (λ (k : ℕ). noting_own k c.args.pull.file c.args.pull.stamp c.args.self.now.tables) c.site-me.ensures)
    c.get.result c.args.out.now c.note.new.self c.send_to_sync.new.out (c.get.ensures.value ∙ c.site-me.ensures) c.in_ok-adopt.ensures.stands c.in_ok-note.ensures.ok c.in_ok-send_to_sync.ensures.packets c.in_ok-send_to_sync.ensures.records

pub returns-clause-disk : goal.returns-clause-disk
returns-clause-disk g c = pull_ok c.args.self.now.frame c.args.pull c.as_slice-numbers.result.now c.as_slice-bytes.result.now (c.as_slice-numbers.ensures ∙ c.pages_brought-pages.ensures) c.as_slice-bytes.ensures c.args.self.now.packs (g.D.Disk.moment c.args.disk.now) (g.D.Disk.moment c.adopt.new.disk) c.args.out.now c.send_to_sync.new.out c.adopt.ensures.any_moment c.adopt.ensures.how c.in_ok-adopt.ensures.tells c.in_ok-adopt.ensures.cause.later

pub returns-in_err-note-clause-disk : goal.returns-in_err-note-clause-disk
returns-in_err-note-clause-disk g c = failed_still _ c.args.self.now.packs (g.D.Disk.moment c.args.disk.now) c.args.out.now c.note.new.self c.from_residual.result NoMemory c.from_residual.ensures.1 tt c.requires.settled (g.met.D.Disk.only_now c.args.disk.now)

pub returns-in_err-adopt-clause-disk : goal.returns-in_err-adopt-clause-disk
returns-in_err-adopt-clause-disk g c = pull_err c.args.self.now.frame c.args.pull c.as_slice-numbers.result.now c.as_slice-bytes.result.now (c.as_slice-numbers.ensures ∙ c.pages_brought-pages.ensures) c.as_slice-bytes.ensures c.args.self.now.packs (g.D.Disk.moment c.args.disk.now) (g.D.Disk.moment c.adopt.new.disk) c.args.out.now c.note.new.self c.adopt.ensures.any_moment c.adopt.ensures.how c.from_residual-in_err-adopt.result c.in_err-adopt.field-0.0 c.from_residual-in_err-adopt.ensures.1 c.in_err-adopt.ensures.tells c.in_err-adopt.ensures.size c.in_err-adopt.ensures.cut
    (c.in_ok-note.ensures.ok ∙ ap (λ (k : ℕ). record c.args.out.now { records = c.args.out.now.records ++ says.Adopt c.args.pull.file k c.args.pull.stamp ∷ [] }) (c.get.ensures.value ∙ c.site-me.ensures)) c.in_err-adopt.ensures.cause (unread_adopt c.in_err-adopt.field-0.0 c.in_err-adopt.ensures.written)

pub returns-in_err-adopted-clause-disk : goal.returns-in_err-adopted-clause-disk
returns-in_err-adopted-clause-disk g c = pull_failed c.args.self.now.frame c.args.pull c.as_slice-numbers.result.now c.as_slice-bytes.result.now (c.as_slice-numbers.ensures ∙ c.pages_brought-pages.ensures) c.as_slice-bytes.ensures c.args.self.now.packs (g.D.Disk.moment c.args.disk.now) (g.D.Disk.moment c.adopt.new.disk) c.args.out.now c.note.new.self c.adopt.ensures.any_moment c.adopt.ensures.how c.from_residual-in_err-adopted.result NoMemory c.from_residual-in_err-adopted.ensures.1 tt c.in_ok-adopt.ensures.cause.later

pub returns-in_err-notes_own-clause-disk : goal.returns-in_err-notes_own-clause-disk
returns-in_err-notes_own-clause-disk g c = pull_failed c.args.self.now.frame c.args.pull c.as_slice-numbers.result.now c.as_slice-bytes.result.now (c.as_slice-numbers.ensures ∙ c.pages_brought-pages.ensures) c.as_slice-bytes.ensures c.args.self.now.packs (g.D.Disk.moment c.args.disk.now) (g.D.Disk.moment c.adopt.new.disk) c.args.out.now c.note.new.self c.adopt.ensures.any_moment c.adopt.ensures.how c.from_residual-in_err-notes_own.result NoMemory c.from_residual-in_err-notes_own.ensures.1 tt c.in_ok-adopt.ensures.cause.later

pub returns-in_err-send_to_sync-clause-disk : goal.returns-in_err-send_to_sync-clause-disk
returns-in_err-send_to_sync-clause-disk g c = pull_failed c.args.self.now.frame c.args.pull c.as_slice-numbers.result.now c.as_slice-bytes.result.now (c.as_slice-numbers.ensures ∙ c.pages_brought-pages.ensures) c.as_slice-bytes.ensures c.args.self.now.packs (g.D.Disk.moment c.args.disk.now) (g.D.Disk.moment c.adopt.new.disk) c.args.out.now c.send_to_sync.new.out c.adopt.ensures.any_moment c.adopt.ensures.how c.from_residual-in_err-send_to_sync.result NoMemory c.from_residual-in_err-send_to_sync.ensures.1 tt c.in_ok-adopt.ensures.cause.later

pub returns-in_err-note-clause-numbered : goal.returns-in_err-note-clause-numbered
returns-in_err-note-clause-numbered g c = if_err c.from_residual.result NoMemory (λ f. f ≢ NoNumber) c.from_residual.ensures.1 memory_numbered

pub returns-in_err-adopt-clause-numbered : goal.returns-in_err-adopt-clause-numbered
returns-in_err-adopt-clause-numbered g c = if_err c.from_residual-in_err-adopt.result (fault_of_commit c.in_err-adopt.field-0.0) (λ f. f ≢ NoNumber) c.from_residual-in_err-adopt.ensures.1 (commit_numbered c.in_err-adopt.field-0.0)

pub returns-in_err-adopted-clause-numbered : goal.returns-in_err-adopted-clause-numbered
returns-in_err-adopted-clause-numbered g c = if_err c.from_residual-in_err-adopted.result NoMemory (λ f. f ≢ NoNumber) c.from_residual-in_err-adopted.ensures.1 memory_numbered

pub returns-in_err-notes_own-clause-numbered : goal.returns-in_err-notes_own-clause-numbered
returns-in_err-notes_own-clause-numbered g c = if_err c.from_residual-in_err-notes_own.result NoMemory (λ f. f ≢ NoNumber) c.from_residual-in_err-notes_own.ensures.1 memory_numbered

pub returns-in_err-send_to_sync-clause-numbered : goal.returns-in_err-send_to_sync-clause-numbered
returns-in_err-send_to_sync-clause-numbered g c = if_err c.from_residual-in_err-send_to_sync.result NoMemory (λ f. f ≢ NoNumber) c.from_residual-in_err-send_to_sync.ensures.1 memory_numbered

pub returns-in_err-note-clause-unfit : goal.returns-in_err-note-clause-unfit
returns-in_err-note-clause-unfit g c so sized full can = memory_fit c.from_residual.result c.from_residual.ensures.1 so

pub returns-in_err-adopt-clause-unfit : goal.returns-in_err-adopt-clause-unfit
returns-in_err-adopt-clause-unfit g c so sized full = fault_at (CanKeep (groups_of c.args.self.now.packs) (view_of c.args.self.now (g.D.Disk.moment c.args.disk.now).seen).store c.args.pull) c.from_residual-in_err-adopt.result (fault_of_commit c.in_err-adopt.field-0.0) c.from_residual-in_err-adopt.ensures.1
    (commit_unfit {S = Unit {0}} (CanKeep (groups_of c.args.self.now.packs) (view_of c.args.self.now (g.D.Disk.moment c.args.disk.now).seen).store c.args.pull) c.in_err-adopt.field-0.0
    (λ is can. c.in_err-adopt.ensures.unfit is (keeps_laid c.args.self.now (g.D.Disk.moment c.args.disk.now).seen c.args.pull (record { size = c.args.pull.size; numbers = c.as_slice-numbers.result; bytes = c.as_slice-bytes.result }) refl (c.as_slice-numbers.ensures ∙ c.pages_brought-pages.ensures) c.as_slice-bytes.ensures can sized full))
    (λ is can. has_room c.args.self.now (g.D.Disk.moment c.args.disk.now).seen c.args.pull (record { size = c.args.pull.size; numbers = c.as_slice-numbers.result; bytes = c.as_slice-bytes.result }) refl (c.as_slice-numbers.ensures ∙ c.pages_brought-pages.ensures) c.as_slice-bytes.ensures can (c.in_err-adopt.ensures.no_space.0 is)))
    so

pub returns-in_err-adopted-clause-unfit : goal.returns-in_err-adopted-clause-unfit
returns-in_err-adopted-clause-unfit g c so sized full can = memory_fit c.from_residual-in_err-adopted.result c.from_residual-in_err-adopted.ensures.1 so

pub returns-in_err-notes_own-clause-unfit : goal.returns-in_err-notes_own-clause-unfit
returns-in_err-notes_own-clause-unfit g c so sized full can = memory_fit c.from_residual-in_err-notes_own.result c.from_residual-in_err-notes_own.ensures.1 so

pub returns-in_err-send_to_sync-clause-unfit : goal.returns-in_err-send_to_sync-clause-unfit
returns-in_err-send_to_sync-clause-unfit g c so sized full can = memory_fit c.from_residual-in_err-send_to_sync.result c.from_residual-in_err-send_to_sync.ensures.1 so
