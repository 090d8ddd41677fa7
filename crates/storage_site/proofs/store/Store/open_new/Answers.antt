use Rattle.std.proofs.Common.{sym, ap, ◌∙◌}
use Rattle.role_steps.specs.Storage.{StoreRequest}
use Rattle.store_instances.specs.Stores.{is_make}
use Rattle.storage_site.proofs.Fits.{no_site}
use Rattle.storage_site.proofs.store.Store.open_new.Goals as goal

pub open_made-requires-clause-own : goal.open_made-requires-clause-own
open_made-requires-clause-own g c = c.in-Some.ensures.value ∙ ap (λ (q : StoreRequest). q.inst.us) c.asked.view_is

pub open_made-requires-clause-made : goal.open_made-requires-clause-made
open_made-requires-clause-made g c = ap (λ (q : StoreRequest). is_make q.mode) (sym c.asked.view_is) ∙ (sym c.is_make.ensures ∙ c.if-is_make.true)

pub open_copy-requires-clause-own : goal.open_copy-requires-clause-own
open_copy-requires-clause-own g c = c.in-Some.ensures.value ∙ ap (λ (q : StoreRequest). q.inst.us) c.asked.view_is

pub open_copy-requires-clause-stays : goal.open_copy-requires-clause-stays
open_copy-requires-clause-stays g c = ap (λ (q : StoreRequest). is_make q.mode) (sym c.asked.view_is) ∙ (sym c.is_make.ensures ∙ c.if-is_make.false)

pub returns-in_default-clause-unfit : goal.returns-in_default-clause-unfit
returns-in_default-clause-unfit g c so can = no_site c.args.frame.now c.args.packs.now.site c.args.asked c.new.result c.asked.inside.inst.us c.new.ensures.some c.in_default.is (ap (λ (q : StoreRequest). q.inst.us) c.asked.view_is) can

pub returns-then-is_make-clause-unfit : goal.returns-then-is_make-clause-unfit
returns-then-is_make-clause-unfit g c so can = c.open_made.ensures.unfit so (can.own (ap (λ (q : StoreRequest). is_make q.mode) (sym c.asked.view_is) ∙ (sym c.is_make.ensures ∙ c.if-is_make.true)))

pub returns-clause-unfit : goal.returns-clause-unfit
returns-clause-unfit g c so can = c.open_copy.ensures.fit so
