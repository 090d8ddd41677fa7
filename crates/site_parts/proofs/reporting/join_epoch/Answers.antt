use Rattle.std.proofs.Common.{◌≡◌, ◌++◌, [], ◌∷◌, subst}
use Rattle.trace_book.specs.declared.record.Record.TheVariants as says
use Rattle.role_steps.specs.Epochs.{joined_view}
use Rattle.role_steps.specs.Views.{Frame}
use Rattle.merge_protocol.specs.Parts.{alone, epoch_part}
use Rattle.site_parts.proofs.reporting.join_epoch.Goals as goal

pub returns-clause-view : goal.returns-clause-view
returns-clause-view c = subst (λ (f : Frame). c.join.new.self ≡ epoch_part (joined_view f.config f.me c.args.epoch.id c.args.epoch.members (alone c.args.epochs.now))) c.frame.view_is c.in_ok-join.ensures.view

pub returns-clause-records : goal.returns-clause-records
returns-clause-records c = subst (λ (f : Frame). c.join.new.out.records ≡ c.args.out.now.records ++ says.Join f.me c.args.epoch.id c.args.epoch.members ∷ []) c.frame.view_is c.in_ok-join.ensures.records
