use Rattle.std.proofs.Common.{◌≡◌, ℕ, List, ◌++◌, refl, sym, ap, ◌∙◌}
use Rattle.file_content.specs.Pages.{pages_of}
use Rattle.wire_messages.specs.declared.packet.Packet.{Packet}
use Rattle.role_steps.specs.Storage.{delta_of, pages_since, steps_of, wanted_delta}
use Rattle.role_steps.specs.Views.{FileSteps, Store}
use Rattle.role_steps.specs.declared.copies.Step.{Step}
use Rattle.store_instances.specs.of_site_packs.Packs.{copy_at}
use Rattle.store_instances.specs.Stores.{StoreState, store_of}
use Rattle.store_instances.proofs.Latest.{nothing_more}
use Rattle.storage_site.proofs.Serves.{delta_packet, no_delta, other_delta, sends_store, this_delta}
use Rattle.storage_site.proofs.store.Store.on_want.Goals as goal

pub returns-in_default : goal.returns-in_default
returns-in_default c image shown =
    let s : Store = store_of c.args.self.now c.args.packs.now image in
    let copy = copy_at c.args.packs.now image c.args.file in
    sends_store (wanted_delta c.args.frame.now c.args.from c.args.file c.args.wanted c.args.own s copy) s s c.args.out.now c.args.out.now refl
    (nothing_more c.args.out.now.packets ∙ ap (λ (ps : List Packet). c.args.out.now.packets ++ ps) (no_delta c.args.frame.now c.args.from c.args.file c.args.wanted c.args.own s copy (sym c.in_default.is ∙ c.head.ensures image shown)))
    refl

pub returns-then-not-same_stamp : goal.returns-then-not-same_stamp
returns-then-not-same_stamp c image shown =
    let s : Store = store_of c.args.self.now c.args.packs.now image in
    let copy = copy_at c.args.packs.now image c.args.file in
    sends_store (wanted_delta c.args.frame.now c.args.from c.args.file c.args.wanted c.args.own s copy) s s c.args.out.now c.args.out.now refl
    (nothing_more c.args.out.now.packets
    ∙ ap (λ (ps : List Packet). c.args.out.now.packets ++ ps)
    (other_delta c.args.frame.now c.args.from c.args.file c.args.wanted c.args.own s copy c.in-Some.copy (sym c.in-Some.is ∙ c.head.ensures image shown) (sym c.same_stamp.ensures ∙ c.if-not-same_stamp.true)))
    refl

pub returns : goal.returns
returns c image shown =
    let s : Store = store_of c.args.self.now c.args.packs.now image in
    let copy = copy_at c.args.packs.now image c.args.file in
    let steps : c.of.result.now ≡ steps_of c.args.file c.args.self.now.steps = c.of.ensures ∙ ap (λ (q : StoreState). steps_of c.args.file q.steps) c.self.view_is in
    let pages : c.in_ok-pages.pages ≡ delta_of (pages_of c.in-Some.copy.size) (pages_since c.args.own c.args.wanted (steps_of c.args.file c.args.self.now.steps)) =
    c.in_ok-pages.ensures ∙ ap (λ (n : ℕ). delta_of n (pages_since c.args.own c.args.wanted c.of.result.now)) c.pages_of-count.ensures
    ∙ ap (λ (xs : List Step). delta_of (pages_of c.in-Some.copy.size) (pages_since c.args.own c.args.wanted xs)) steps in
    sends_store (wanted_delta c.args.frame.now c.args.from c.args.file c.args.wanted c.args.own s copy) s s c.args.out.now c.send_delta.new.out refl
    (c.in_ok-send_delta.ensures.packets
    ∙ ap (λ (ps : List ℕ). c.args.out.now.packets ++ delta_packet c.args.frame.now c.args.from c.args.file c.args.wanted c.args.own s ps) pages
    ∙ ap (λ (ps : List Packet). c.args.out.now.packets ++ ps)
    (this_delta c.args.frame.now c.args.from c.args.file c.args.wanted c.args.own s copy c.in-Some.copy (sym c.in-Some.is ∙ c.head.ensures image shown) (sym c.same_stamp.ensures ∙ c.if-not-same_stamp.false)))
    c.in_ok-send_delta.ensures.records
