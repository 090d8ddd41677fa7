use Rattle.std.proofs.Common.{◌∙◌, sym, ap, subst, arith, ℕ}
use Rattle.std.specs.Prelude.{Option, Some}
use Rattle.std.specs.Option.{option_copied, option_map}
use Rattle.pack_layout.specs.declared.slot.Slot.{Slot}
use Rattle.wire_messages.specs.declared.body.ReportedCopy.{ReportedCopy}
use Rattle.site_packs.specs.Packs.{PacksState, ArePacks, slot_reported}
use Rattle.site_packs.proofs.Reports.{head_is}
use Rattle.site_packs.proofs.packs.SitePacks.head.Goals as goal

pub returns-in-Some : goal.returns-in-Some
returns-in-Some c image shown =
    let are = subst (λ (p : PacksState). ArePacks 0 0 p.site p.packs) c.self.view_is c.self.invariant in
    let here = sym c.slot_of.ensures ∙ ap (λ o. option_copied o) c.in-Some.is in
    sym (head_is c.args.self.now image c.args.file are shown (let fits = c.number_of-ino.type_inv in let e = c.number_of-ino.ensures in omega arith)
    ∙ ap (λ (o : Option Slot). option_map (slot_reported c.args.file.ino) o) here
    ∙ ap (λ (n : ℕ). Some (slot_reported n c.in-Some.slot.now)) (sym c.number_of-ino.ensures)
    ∙ ap (λ (r : ReportedCopy). Some r) (sym c.reported.ensures))

pub returns-in-None : goal.returns-in-None
returns-in-None c image shown =
    let are = subst (λ (p : PacksState). ArePacks 0 0 p.site p.packs) c.self.view_is c.self.invariant in
    let here = sym c.slot_of.ensures ∙ ap (λ o. option_copied o) c.in-None.is in
    sym (head_is c.args.self.now image c.args.file are shown (let fits = c.number_of-ino.type_inv in let e = c.number_of-ino.ensures in omega arith)
    ∙ ap (λ (o : Option Slot). option_map (slot_reported c.args.file.ino) o) here)
