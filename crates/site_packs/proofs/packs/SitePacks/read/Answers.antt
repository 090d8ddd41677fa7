use Rattle.std.proofs.Common.{◌≡◌, ◌∙◌, ℕ, ◌≤◌, List, ◌++◌, length, ap, sym, subst, arith}
use Rattle.std.specs.Prelude.{Option, Some, Result, Ok, Err, OnOk}
use Rattle.std.specs.Option.{option_copied}
use Rattle.locus_ids.specs.Sizes.{content_bytes_max}
use Rattle.pack_slots.specs.of_inode_switch.View.{view}
use Rattle.inode_pack.specs.Pack.{PackState}
use Rattle.inode_pack.specs.Committing.{content_of as content_in}
use Rattle.role_steps.specs.Storage.{content_of}
use Rattle.site_packs.specs.Packs.{PacksState, ArePacks, slot_held, copy_at}
use Rattle.site_packs.proofs.Contents.{no_content, content_at, has_content, short_content}
use Rattle.site_packs.proofs.Reports.{found_pack}
use Rattle.site_packs.proofs.packs.SitePacks.read.Goals as goal

pub read_content-requires-clause-stands : goal.read_content-requires-clause-stands
read_content-requires-clause-stands g c =
    let are = subst (λ (p : PacksState). ArePacks 0 0 p.site p.packs) c.self.view_is c.self.invariant in
    let is = sym c.pack_of.ensures ∙ ap (λ o. option_copied o) c.in-Some.is in
    let f = found_pack c.args.self.now.site c.args.file.group c.args.self.now.packs (g.D.Disk.moment c.args.disk.now).seen c.in-Some.pack.now are c.requires.stands.shown is in
    record { settled = c.requires.stands.settled; shows = f.shows }

pub read_content-requires-clause-content : goal.read_content-requires-clause-content
read_content-requires-clause-content g c =
    let are = subst (λ (p : PacksState). ArePacks 0 0 p.site p.packs) c.self.view_is c.self.invariant in
    let is = sym c.pack_of.ensures ∙ ap (λ o. option_copied o) c.in-Some.is in
    let slot = sym c.copy.ensures.value ∙ ap (λ o. option_copied o) c.in-Some-copy.is in
    (has_content c.args.self.now.site c.args.file.group c.number_of-ino.result c.args.self.now.packs (g.D.Disk.moment c.args.disk.now).seen c.in-Some.pack.now c.in-Some-copy.slot.now are c.requires.stands.shown is slot).2

pub returns-clause-content : goal.returns-clause-content
returns-clause-content g c =
    let seen = (g.D.Disk.moment c.args.disk.now).seen in
    let are = subst (λ (p : PacksState). ArePacks 0 0 p.site p.packs) c.self.view_is c.self.invariant in
    let is = sym c.pack_of.ensures ∙ ap (λ o. option_copied o) c.in-Some.is in
    let slot = sym c.copy.ensures.value ∙ ap (λ o. option_copied o) c.in-Some-copy.is in
    let has = has_content c.args.self.now.site c.args.file.group c.number_of-ino.result c.args.self.now.packs seen c.in-Some.pack.now c.in-Some-copy.slot.now are c.requires.stands.shown is slot in
    let e = c.number_of-ino.ensures in
    let low = has.0 in
    let high = has.1 in
    let fits = c.number_of-ino.type_inv in
    let same = content_at c.args.self.now seen c.args.file are c.requires.stands.shown (omega arith) c.in-Some.pack.now is (omega arith) (omega arith) in
    let here : content_in (view seen c.in-Some.pack.now.base c.number_of-ino.result) ≡ content_of (copy_at c.args.self.now seen c.args.file) = ap (λ (n : ℕ). content_in (view seen c.in-Some.pack.now.base n)) e ∙ sym same in
    let clear = c.clear.ensures in
    subst (λ (l : List ℕ). OnOk c.read_content.result (c.read_content.new.out ≡ l)) here
    (subst (λ (l : List ℕ). OnOk c.read_content.result (c.read_content.new.out ≡ l ++ content_in (view seen c.in-Some.pack.now.base c.number_of-ino.result))) clear c.read_content.ensures.content)

pub returns-in_default-clause-content : goal.returns-in_default-clause-content
returns-in_default-clause-content g c =
    let seen = (g.D.Disk.moment c.args.disk.now).seen in
    let are = subst (λ (p : PacksState). ArePacks 0 0 p.site p.packs) c.self.view_is c.self.invariant in
    let is = sym c.pack_of.ensures ∙ ap (λ o. option_copied o) c.in_default.is in
    let fits = c.number_of-ino.type_inv in
    let e = c.number_of-ino.ensures in
    c.clear.ensures ∙ sym (no_content c.args.self.now seen c.args.file are c.requires.stands.shown (omega arith) (ap (λ (o : Option PackState). slot_held o c.args.file.ino) is))

pub returns-in_default-copy-clause-content : goal.returns-in_default-copy-clause-content
returns-in_default-copy-clause-content g c =
    let seen = (g.D.Disk.moment c.args.disk.now).seen in
    let are = subst (λ (p : PacksState). ArePacks 0 0 p.site p.packs) c.self.view_is c.self.invariant in
    let is = sym c.pack_of.ensures ∙ ap (λ o. option_copied o) c.in-Some.is in
    let slot = sym c.copy.ensures.value ∙ ap (λ o. option_copied o) c.in_default-copy.is in
    let fits = c.number_of-ino.type_inv in
    let e = c.number_of-ino.ensures in
    c.clear.ensures ∙ sym (no_content c.args.self.now seen c.args.file are c.requires.stands.shown (omega arith)
    (ap (λ (o : Option PackState). slot_held o c.args.file.ino) is ∙ ap (λ (n : ℕ). slot_held (Some c.in-Some.pack.now) n) (sym e) ∙ slot))

on_ok : {T E A B : Type 0} (r : Result T E) → (A → B) → OnOk r A → OnOk r B
on_ok (Ok x) f h = f h
on_ok (Err e) f h = tt

pub returns-clause-short : goal.returns-clause-short
returns-clause-short g c =
    let seen = (g.D.Disk.moment c.args.disk.now).seen in
    let are = subst (λ (p : PacksState). ArePacks 0 0 p.site p.packs) c.self.view_is c.self.invariant in
    let is = sym c.pack_of.ensures ∙ ap (λ o. option_copied o) c.in-Some.is in
    let slot = sym c.copy.ensures.value ∙ ap (λ o. option_copied o) c.in-Some-copy.is in
    let has = has_content c.args.self.now.site c.args.file.group c.number_of-ino.result c.args.self.now.packs seen c.in-Some.pack.now c.in-Some-copy.slot.now are c.requires.stands.shown is slot in
    let short = short_content c.in-Some.pack.now c.number_of-ino.result c.in-Some-copy.slot.now.size seen has.2 in
    let content : List ℕ = content_in (view seen c.in-Some.pack.now.base c.number_of-ino.result) in
    on_ok c.read_content.result (λ (e : c.read_content.new.out ≡ c.clear.new.self ++ content). subst (λ (l : List ℕ). length l ≤ content_bytes_max) (sym (e ∙ ap (λ (l : List ℕ). l ++ content) c.clear.ensures)) short) c.read_content.ensures.content
