use Rattle.std.proofs.Common.{◌≡◌, ◌∙◌, ◌-◌, ◌++◌, ℕ, zero, suc, List, length, drop, replicate, ap, arith}
use Rattle.locus_ids.specs.Sizes.{page_bytes}
use Rattle.new_contents.proofs.page_writing.padded_page.Goals as goal

drop-zeros : (m n : ℕ) → drop n (replicate {A = ℕ} m 0) ≡ replicate (m - n) 0
drop-zeros m zero = let e : m ≡ m - 0 = omega arith in ap (λ (k : ℕ). replicate k 0) e
drop-zeros zero (suc n) = let e : 0 ≡ 0 - suc n = omega arith in ap (λ (k : ℕ). replicate {A = ℕ} k 0) e
drop-zeros (suc m) (suc n) = drop-zeros m n ∙ (let e : m - n ≡ suc m - suc n = omega arith in ap (λ (k : ℕ). replicate k 0) e)

pub returns : goal.returns
returns c = rw c.copy_from_slice.ensures.after (ap (λ (l : List ℕ). c.args.bytes.now ++ l) (drop-zeros page_bytes (length c.args.bytes.now)))
