use Rattle.std.proofs.Common.{◌≡◌, ℕ, ◌^◌, ◌<◌, List, [], ◌∷◌, get_or, sym, ◌∙◌, ap, arith, false}
use Rattle.std.specs.Int.{w32, from_be_bytes}
use Rattle.std.proofs.lemmas.Bool.{eq-eqb, false≢true}
use Rattle.std.proofs.lemmas.Bool.Decides.{Decides-eqb}
use Rattle.std.proofs.lemmas.Slice.Eq.{slice_eq-Decides}
use Rattle.site_label.specs.Label.{half_bytes}
use Rattle.site_label.proofs.Halves.{boot_inside}
use Rattle.site_label.proofs.reading.reading_of.Goals as goal

-- the four bytes of the number
number_read : (bytes : List ℕ) (site boot : ℕ) → boot < 2 ^ 32 → bytes ≡ half_bytes site boot → from_be_bytes w32 (get_or bytes 10 0 ∷ get_or bytes 11 0 ∷ get_or bytes 12 0 ∷ get_or bytes 13 0 ∷ []) ≡ boot
unfolding half_bytes
number_read bytes site boot fits same = ap (λ (l : List ℕ). from_be_bytes w32 (get_or l 10 0 ∷ get_or l 11 0 ∷ get_or l 12 0 ∷ get_or l 13 0 ∷ [])) same ∙ boot_inside site boot fits

pub returns-else-eq : goal.returns-else-eq
returns-else-eq c = (
  eq-eqb (get_or c.args.bytes.now 0 0) 165 (omega (arith, c.if-bytes-ne165.false)),
  λ boot fits same.
      let read = c.from_be_bytes-boot.ensures ∙ number_read c.args.bytes.now c.args.site boot fits same in
      let made : c.half_bytes.result ≡ c.args.bytes.now = c.half_bytes.ensures ∙ ap (λ (n : ℕ). half_bytes c.args.site n) read ∙ sym same in
      absurd (false≢true ((slice_eq-Decides Decides-eqb c.args.bytes.now c.half_bytes.result false (sym c.if-eq.false ∙ c.eq.ensures)).1 (sym made))),
)
