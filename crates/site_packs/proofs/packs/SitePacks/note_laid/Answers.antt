use Rattle.std.proofs.Common.{◌≡◌, ℕ, List, length, sym, subst, arith, length-take}
use Rattle.file_content.specs.Pages.{pages_of}
use Rattle.site_packs.specs.Live.{IsNoted}
use Rattle.site_packs.proofs.AllCame.{all_laid, whole_bytes}
use Rattle.site_packs.proofs.packs.SitePacks.note_laid.Goals as goal

pub returns-clause-noted : goal.returns-clause-noted
returns-clause-noted c other own marked =
    let came = c.args.came.now in
    let all : length came.numbers.now ≡ pages_of came.size = (let e = c.div_ceil.ensures in let f = c.if-came-div_ceil.false in omega arith) in
    subst (λ (l : List ℕ). IsNoted c.args.self.now.live c.args.file l other) (sym (all_laid came.size came.numbers.now came.bytes.now c.requires.pages c.requires.bytes all own)) (c.note.ensures.noted other marked)

pub slice_bounds-note-end : goal.slice_bounds-note-end
slice_bounds-note-end c =
    let came = c.args.came.now in
    let all : length came.numbers.now ≡ pages_of came.size = (let e = c.div_ceil.ensures in let f = c.if-came-div_ceil.false in omega arith) in
    let fits = whole_bytes came.size came.numbers.now came.bytes.now c.requires.pages c.requires.bytes all in
    omega (arith, fits, length-take came.size came.bytes.now)
