-- Pages taken from a number of free ones, one version after the other.
use Rattle.std.proofs.Common.{◌≡◌, ℕ, ◌+◌, ◌-◌, Bool, true, false, cond, List, ◌∷◌, length, refl, ap, ◌∙◌, arith}
use Rattle.std.specs.Prelude.{◌==◌, filter, sum_by}
use Rattle.std.proofs.lemmas.List.Sums.{sum_by-cons}
use Rattle.commit_graph.specs.declared.history.Version.{Version}
use Rattle.commit_graph.specs.Versions.{content_of}
use Rattle.file_content.specs.Pages.{pages_of}
use Rattle.promises.specs.Past.{Copy}
use Rattle.audit_rows.specs.Room.{pages_held}

less_sum : (left a b : ℕ) → left - (a + b) ≡ (left - a) - b
less_sum left a b = omega arith

pub both_less : (left a b : ℕ) → (left - a) - b ≡ left - (a + b)
both_less left a b = omega arith

pub less_held_one : (h : List Version) (group left : ℕ) (v : Copy) (vs : List Copy)
    → left - pages_held h (v ∷ vs) group ≡ cond (v.file.group == group) (left - pages_of (length (content_of h v.file v.stamp))) left - pages_held h vs group
less_held_one h group left v vs = by_test (v.file.group == group)
  where
    by_test : (b : Bool) → left - sum_by (λ (w : Copy). pages_of (length (content_of h w.file w.stamp))) (cond b (v ∷ filter (λ (w : Copy). w.file.group == group) vs) (filter (λ (w : Copy). w.file.group == group) vs)) ≡ cond b (left - pages_of (length (content_of h v.file v.stamp))) left - pages_held h vs group
    by_test true = ap (λ n. left - n) (sum_by-cons (λ (w : Copy). pages_of (length (content_of h w.file w.stamp))) v (filter (λ (w : Copy). w.file.group == group) vs)) ∙ less_sum left (pages_of (length (content_of h v.file v.stamp))) (pages_held h vs group)
    by_test false = refl
