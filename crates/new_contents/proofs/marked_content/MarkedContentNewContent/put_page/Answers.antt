use Rattle.std.proofs.Common.{◌≡◌, ◌∙◌, ◌*◌, ℕ, List, length, drop, Option, ap, subst, sym, arith, length-take}
use Rattle.std.specs.Prelude.{OnOk, Ok}
use Rattle.locus_ids.specs.Sizes.{page_bytes}
use Rattle.disk_model.specs.Disk.{Goes}
use Rattle.disk_model.specs.declared.disk.DiskFault.{DiskFault}
use Rattle.disk_model.specs.Moments.{TellsMany}
use Rattle.disk_model.proofs.Tells.{tells_none}
use Rattle.gate_switch.specs.Switch.{AreWithin, TornIn, written}
use Rattle.new_contents.specs.Changed.{piece_at}
use Rattle.new_contents.proofs.Marked.{page_put, page_unchanged}
use Rattle.new_contents.proofs.marked_content.MarkedContentNewContent.put_page.Goals as goal

pub put_padded-requires-clause-short : goal.put_padded-requires-clause-short
put_padded-requires-clause-short g c =
    let is = ap (λ (l : List ℕ). length l) c.page_of.ensures in
    omega (arith, length-take page_bytes (drop (page_bytes * c.from.result) c.args.self.now.content.now))

pub put_padded-requires-clause-within : goal.put_padded-requires-clause-within
put_padded-requires-clause-within g c =
    let is = page_put c.args.self.now.content.now c.args.self.now.marks.now c.args.i c.from.result c.page_of.result.now c.from.ensures c.page_of.ensures (sym c.is_new_page.ensures.changed ∙ c.if-not-is_new_page.false) (c.is_new_page.ensures.inside c.if-not-is_new_page.false) in
    subst (λ (o : Option (List ℕ)). AreWithin (piece_at c.args.at o) (length (g.D.Disk.moment c.args.disk.now).seen)) is c.requires

pub returns-clause-written : goal.returns-clause-written
returns-clause-written g c =
    let is = page_put c.args.self.now.content.now c.args.self.now.marks.now c.args.i c.from.result c.page_of.result.now c.from.ensures c.page_of.ensures (sym c.is_new_page.ensures.changed ∙ c.if-not-is_new_page.false) (c.is_new_page.ensures.inside c.if-not-is_new_page.false) in
    subst (λ (o : Option (List ℕ)). OnOk c.put_padded.result ((g.D.Disk.moment c.put_padded.new.disk).seen ≡ written (g.D.Disk.moment c.args.disk.now).seen (piece_at c.args.at o))) (sym is) c.put_padded.ensures.written

pub returns-clause-crash : goal.returns-clause-crash
returns-clause-crash g c =
    let is = page_put c.args.self.now.content.now c.args.self.now.marks.now c.args.i c.from.result c.page_of.result.now c.from.ensures c.page_of.ensures (sym c.is_new_page.ensures.changed ∙ c.if-not-is_new_page.false) (c.is_new_page.ensures.inside c.if-not-is_new_page.false) in
    subst (λ (o : Option (List ℕ)). Goes (TornIn (piece_at c.args.at o)) (g.D.Disk.moment c.args.disk.now) (g.D.Disk.moment c.put_padded.new.disk)) (sym is) c.put_padded.ensures.crash

pub returns-clause-tells : goal.returns-clause-tells
returns-clause-tells g c =
    let is = page_put c.args.self.now.content.now c.args.self.now.marks.now c.args.i c.from.result c.page_of.result.now c.from.ensures c.page_of.ensures (sym c.is_new_page.ensures.changed ∙ c.if-not-is_new_page.false) (c.is_new_page.ensures.inside c.if-not-is_new_page.false) in
    subst (λ (o : Option (List ℕ)). TellsMany (length (piece_at c.args.at o)) (g.D.Disk.moment c.args.disk.now).passing (g.D.Disk.moment c.put_padded.new.disk).passing c.put_padded.result) (sym is) c.put_padded.ensures.tells

pub returns-then-not-is_new_page-clause-written : goal.returns-then-not-is_new_page-clause-written
returns-then-not-is_new_page-clause-written g c =
    let is = page_unchanged c.args.self.now.content.now c.args.self.now.marks.now c.args.i (sym c.is_new_page.ensures.changed ∙ c.if-not-is_new_page.true) in
    sym (ap (λ (o : Option (List ℕ)). written (g.D.Disk.moment c.args.disk.now).seen (piece_at c.args.at o)) is)

pub returns-then-not-is_new_page-clause-tells : goal.returns-then-not-is_new_page-clause-tells
returns-then-not-is_new_page-clause-tells g c =
    let is = page_unchanged c.args.self.now.content.now c.args.self.now.marks.now c.args.i (sym c.is_new_page.ensures.changed ∙ c.if-not-is_new_page.true) in
    let p = (g.D.Disk.moment c.args.disk.now).passing in
    subst (λ (o : Option (List ℕ)). TellsMany {T = Unit {0}} {E = DiskFault} (length (piece_at c.args.at o)) p p (Ok tt)) (sym is) (tells_none p)
