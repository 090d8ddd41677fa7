use Rattle.std.proofs.Common.{◌≡◌, ℕ, true, false, List, [], ◌∷◌, ◌++◌, refl, sym, ap, ◌∙◌}
use Rattle.wire_messages.specs.declared.packet.Packet.{Packet}
use Rattle.wire_messages.specs.declared.body.Body.TheVariants as body
use Rattle.file_content.specs.Pages.{page_of}
use Rattle.role_steps.specs.Views.{packet}
use Rattle.role_steps.specs.Storage.{content_of, pulled_page}
use Rattle.store_instances.specs.of_site_packs.Packs.{copy_at}
use Rattle.store_instances.specs.Stores.{store_of}
use Rattle.storage_site.specs.Serving.{has_page_of}
use Rattle.store_instances.proofs.Latest.{nothing_more}
use Rattle.storage_site.proofs.Serves.{sends_store, page_as, pulled_not, pulled_yes}
use Rattle.store_instances.proofs.Fits.{memory_fit, refused_read}
use Rattle.storage_site.proofs.store.Store.on_pull.Goals as goal

pub returns-then-not-has_page-clause-gives : goal.returns-then-not-has_page-clause-gives
returns-then-not-has_page-clause-gives g c =
    let image : List ℕ = (g.D.Disk.moment c.args.disk.now).seen in
    let copy = copy_at c.args.packs.now image c.args.file in
    let held : has_page_of c.args.stamp c.args.page copy ≡ false = sym (page_as c.args.stamp c.args.page copy c.head.result (c.head.ensures image c.requires.shown)) ∙ (sym c.has_page.ensures ∙ c.if-not-has_page.true) in
    let pulled = pulled_page c.args.frame.now c.args.from c.args.file c.args.stamp c.args.page copy in
    sends_store pulled (store_of c.args.self.now c.args.packs.now image) (store_of c.args.self.now c.args.packs.now image) c.args.out.now c.args.out.now refl
    (nothing_more c.args.out.now.packets ∙ ap (λ (ps : List Packet). c.args.out.now.packets ++ ps) (pulled_not c.args.frame.now c.args.from c.args.file c.args.stamp c.args.page copy held))
    refl

pub returns-clause-gives : goal.returns-clause-gives
returns-clause-gives g c =
    let image : List ℕ = (g.D.Disk.moment c.args.disk.now).seen in
    let copy = copy_at c.args.packs.now image c.args.file in
    let held : has_page_of c.args.stamp c.args.page copy ≡ true = sym (page_as c.args.stamp c.args.page copy c.head.result (c.head.ensures image c.requires.shown)) ∙ (sym c.has_page.ensures ∙ c.if-not-has_page.false) in
    let pulled = pulled_page c.args.frame.now c.args.from c.args.file c.args.stamp c.args.page copy in
    sends_store pulled (store_of c.args.self.now c.args.packs.now image) (store_of c.args.self.now c.args.packs.now (g.D.Disk.moment c.read_page.new.disk).seen) c.args.out.now c.send_page.new.out
    (ap (λ (m : List ℕ). store_of c.args.self.now c.args.packs.now m) c.read_page.ensures.seen)
    (c.in_ok-send_page.ensures.packets
    ∙ (ap (λ (bytes : List ℕ). c.args.out.now.packets ++ (packet c.args.frame.now c.args.from (body.Page c.args.file c.args.stamp c.args.page bytes) ∷ [])) (c.in_ok-bytes.ensures.page ∙ ap (λ (n : ℕ). page_of (content_of copy) n) c.from.ensures)
    ∙ ap (λ (ps : List Packet). c.args.out.now.packets ++ ps) (pulled_yes c.args.frame.now c.args.from c.args.file c.args.stamp c.args.page copy held)))
    c.in_ok-send_page.ensures.records

pub returns-in_err-bytes-clause-fit : goal.returns-in_err-bytes-clause-fit
returns-in_err-bytes-clause-fit g c = refused_read c.in_err-bytes.field-0.0 c.from_residual.result c.from_residual.ensures.1

pub returns-in_err-send_page-clause-fit : goal.returns-in_err-send_page-clause-fit
returns-in_err-send_page-clause-fit g c = memory_fit c.from_residual-in_err-send_page.result c.from_residual-in_err-send_page.ensures.1
