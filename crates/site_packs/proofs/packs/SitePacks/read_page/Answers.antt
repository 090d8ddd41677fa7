use Rattle.std.proofs.Common.{◌≡◌, ◌∙◌, ℕ, List, [], ap, sym, subst, arith}
use Rattle.std.specs.Prelude.{Option, Some, IfOk}
use Rattle.std.specs.Option.{option_copied}
use Rattle.file_content.specs.Pages.{page_of}
use Rattle.pack_slots.specs.of_inode_switch.View.{view}
use Rattle.inode_pack.specs.Pack.{PackState}
use Rattle.inode_pack.specs.Committing.{content_of as content_in}
use Rattle.role_steps.specs.Storage.{content_of}
use Rattle.site_packs.specs.Packs.{PacksState, ArePacks, slot_held, copy_at}
use Rattle.site_packs.proofs.Contents.{no_content, content_at, has_content}
use Rattle.site_packs.proofs.Reports.{found_pack}
use Rattle.site_packs.proofs.PageBytes.{past_page}
use Rattle.site_packs.proofs.packs.SitePacks.read_page.Goals as goal

pub load_page-requires-clause-stands : goal.load_page-requires-clause-stands
load_page-requires-clause-stands g c =
    let are = subst (λ (p : PacksState). ArePacks 0 0 p.site p.packs) c.self.view_is c.self.invariant in
    let is = sym c.pack_of.ensures ∙ ap (λ o. option_copied o) c.in-Some.is in
    let f = found_pack c.args.self.now.site c.args.file.group c.args.self.now.packs (g.D.Disk.moment c.args.disk.now).seen c.in-Some.pack.now are c.requires.stands.shown is in
    record { settled = c.requires.stands.settled; shows = f.shows }

pub load_page-requires-clause-content : goal.load_page-requires-clause-content
load_page-requires-clause-content g c =
    let are = subst (λ (p : PacksState). ArePacks 0 0 p.site p.packs) c.self.view_is c.self.invariant in
    let is = sym c.pack_of.ensures ∙ ap (λ o. option_copied o) c.in-Some.is in
    let slot = sym c.copy.ensures.value ∙ ap (λ o. option_copied o) c.in-Some-copy.is in
    (has_content c.args.self.now.site c.args.file.group c.number_of-ino.result c.args.self.now.packs (g.D.Disk.moment c.args.disk.now).seen c.in-Some.pack.now c.in-Some-copy.slot.now are c.requires.stands.shown is slot).2

pub returns-clause-page : goal.returns-clause-page
returns-clause-page g c =
    let seen = (g.D.Disk.moment c.args.disk.now).seen in
    let are = subst (λ (p : PacksState). ArePacks 0 0 p.site p.packs) c.self.view_is c.self.invariant in
    let is = sym c.pack_of.ensures ∙ ap (λ o. option_copied o) c.in-Some.is in
    let slot = sym c.copy.ensures.value ∙ ap (λ o. option_copied o) c.in-Some-copy.is in
    let has = has_content c.args.self.now.site c.args.file.group c.number_of-ino.result c.args.self.now.packs seen c.in-Some.pack.now c.in-Some-copy.slot.now are c.requires.stands.shown is slot in
    let e = c.number_of-ino.ensures in
    let low = has.0 in
    let high = has.1 in
    let fits = c.number_of-ino.type_inv in
    let same = content_at c.args.self.now seen c.args.file are c.requires.stands.shown (omega arith) c.in-Some.pack.now is (omega arith) (omega arith) in
    let here : content_in (view seen c.in-Some.pack.now.base c.number_of-ino.result) ≡ content_of (copy_at c.args.self.now seen c.args.file) = ap (λ (n : ℕ). content_in (view seen c.in-Some.pack.now.base n)) e ∙ sym same in
    subst (λ (l : List ℕ). IfOk c.load_page.result (λ bytes. bytes ≡ page_of l c.args.page)) here c.load_page.ensures.page

pub returns-in_default-clause-page : goal.returns-in_default-clause-page
returns-in_default-clause-page g c =
    let seen = (g.D.Disk.moment c.args.disk.now).seen in
    let are = subst (λ (p : PacksState). ArePacks 0 0 p.site p.packs) c.self.view_is c.self.invariant in
    let is = sym c.pack_of.ensures ∙ ap (λ o. option_copied o) c.in_default.is in
    let fits = c.number_of-ino.type_inv in
    let e = c.number_of-ino.ensures in
    c.new.ensures ∙ sym (past_page [] c.args.page (omega arith)) ∙ ap (λ (l : List ℕ). page_of l c.args.page) (sym (no_content c.args.self.now seen c.args.file are c.requires.stands.shown (omega arith) (ap (λ (o : Option PackState). slot_held o c.args.file.ino) is)))

pub returns-in_default-copy-clause-page : goal.returns-in_default-copy-clause-page
returns-in_default-copy-clause-page g c =
    let seen = (g.D.Disk.moment c.args.disk.now).seen in
    let are = subst (λ (p : PacksState). ArePacks 0 0 p.site p.packs) c.self.view_is c.self.invariant in
    let is = sym c.pack_of.ensures ∙ ap (λ o. option_copied o) c.in-Some.is in
    let slot = sym c.copy.ensures.value ∙ ap (λ o. option_copied o) c.in_default-copy.is in
    let fits = c.number_of-ino.type_inv in
    let e = c.number_of-ino.ensures in
    c.new-in_default-copy.ensures ∙ sym (past_page [] c.args.page (omega arith)) ∙ ap (λ (l : List ℕ). page_of l c.args.page) (sym (no_content c.args.self.now seen c.args.file are c.requires.stands.shown (omega arith)
    (ap (λ (o : Option PackState). slot_held o c.args.file.ino) is ∙ ap (λ (n : ℕ). slot_held (Some c.in-Some.pack.now) n) (sym e) ∙ slot)))
