-- Which use of its instance a call is, among all epochs.
use Rattle.std.proofs.Common.{◌≡◌, ℕ, ◌+◌, ◌≤◌, Bool, true, false, not, ◌&&◌, cond, List, [], ◌∷◌, length, filter, Option, Some, None, refl, sym, ap, ◌∙◌, arith}
use Rattle.std.specs.Prelude.{sum_by}
use Rattle.std.specs.List.{find}
use Rattle.std.proofs.lemmas.List.Sums.{sum_by-cons}
use Rattle.locus_ids.specs.declared.ids.CallId.{CallId}
use Rattle.locus_ids.specs.declared.ids.EpochId.{EpochId}
use Rattle.locus_ids.specs.declared.ids.Serial.{Serial}
use Rattle.locus_ids.specs.declared.refusal.Refusal.{Refusal}
use Rattle.trace_book.specs.declared.call.Call.{Call}
use Rattle.trace_book.specs.declared.descriptor.Beginning.{Beginning}
use Rattle.trace_book.specs.declared.descriptor.Beginning.TheVariants as begins
use Rattle.trace_book.specs.declared.descriptor.OneVersion.{OneVersion}
use Rattle.promises.specs.Past.{Epoch, is_close}
use Rattle.promises.specs.After.{is_epoch}
use Rattle.audit_copies.proofs.of_past_laws.Names.{epoch_turned}
use Rattle.audit_copies.proofs.of_past_laws.Changing.{only_one, find_filter}
use Rattle.audit_epochs.specs.Changes.{turn_among, turn_in, used_by}
use Rattle.audit_epochs.specs.Places.{turn_at}
use Rattle.audit_epochs.proofs.Using.{turn_none}

add_none : (n m : ℕ) → n ≡ 0 → n + m ≡ m
add_none n m h = omega (arith, h)

none_more : (n : ℕ) → n + 0 ≡ n
none_more n = omega arith

-- only those that pass count
sum_kept : (g : Epoch → ℕ) (p : Epoch → Bool) → ((t : Epoch) → p t ≡ false → g t ≡ 0) → (ts : List Epoch) → sum_by g ts ≡ sum_by g (filter p ts)
sum_kept g p none [] = refl
sum_kept g p none (t ∷ ts) = sum_by-cons g t ts ∙ (ap (λ n. g t + n) (sum_kept g p none ts) ∙ at (p t) refl)
  where
    at : (b : Bool) → p t ≡ b → g t + sum_by g (filter p ts) ≡ sum_by g (cond b (t ∷ filter p ts) (filter p ts))
    at true h = sym (sum_by-cons g t (filter p ts))
    at false h = add_none (g t) (sum_by g (filter p ts)) (none t h)

-- a call uses no instance of another epoch
elsewhere : (e : EpochId) (i : Serial) (words : Call) (t : Epoch) → is_epoch e t ≡ false → turn_in (begins.Uses e i) words t ≡ 0
elsewhere e i words t h =
    sym (turn_none (begins.Uses e i) words t t refl (sym (ap (λ b. cond (b && not (is_close words)) (Some i) None) (epoch_turned e t.id ∙ h))))

pub turn_of_uses : (e : EpochId) (i : Serial) (words : Call) (ts : List Epoch) → length (filter (is_epoch e) ts) ≤ 1 → turn_at (begins.Uses e i) words (find (is_epoch e) ts) ≡ turn_among ts (begins.Uses e i) words
turn_of_uses e i words ts one = at (find (is_epoch e) ts) refl ∙ sym (sum_kept (turn_in (begins.Uses e i) words) (is_epoch e) (elsewhere e i words) ts)
  where
    at : (o : Option Epoch) → find (is_epoch e) ts ≡ o → turn_at (begins.Uses e i) words o ≡ sum_by (turn_in (begins.Uses e i) words) (filter (is_epoch e) ts)
    at None h = ap (sum_by (turn_in (begins.Uses e i) words)) (sym (find_filter (is_epoch e) ts h))
    at (Some t) h =
        sym (ap (sum_by (turn_in (begins.Uses e i) words)) (only_one (is_epoch e) ts t one h)
        ∙ (sum_by-cons (turn_in (begins.Uses e i) words) t [] ∙ none_more (turn_in (begins.Uses e i) words t)))

-- nor does one that begins otherwise use any
none_used : (b : Beginning) (words : Call) → ((t : Epoch) → used_by b words t.id ≡ None) → (ts : List Epoch) → 0 ≡ turn_among ts b words
none_used b words none [] = refl
none_used b words none (t ∷ ts) = none_used b words none ts ∙ sym (sum_by-cons (turn_in b words) t ts ∙ add_none (turn_in b words t) (sum_by (turn_in b words) ts) (sym (turn_none b words t t refl (sym (none t)))))

pub turn_of_denied : (why : Refusal) (words : Call) (ts : List Epoch) → 0 ≡ turn_among ts (begins.Denied why) words
turn_of_denied why words ts = none_used (begins.Denied why) words (λ t. refl) ts

pub turn_of_walks : (id : CallId) (words : Call) (ts : List Epoch) → 0 ≡ turn_among ts (begins.Walks id) words
turn_of_walks id words ts = none_used (begins.Walks id) words (λ t. refl) ts

pub turn_of_reopens : (version : OneVersion) (last : EpochId) (words : Call) (ts : List Epoch) → 0 ≡ turn_among ts (begins.Reopens version last) words
turn_of_reopens version last words ts = none_used (begins.Reopens version last) words (λ t. refl) ts

pub turn_of_frees : (words : Call) (ts : List Epoch) → 0 ≡ turn_among ts begins.Frees words
turn_of_frees words ts = none_used begins.Frees words (λ t. refl) ts
