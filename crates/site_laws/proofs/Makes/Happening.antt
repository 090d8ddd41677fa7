-- What an event adds to what was told and sent.
use Rattle.std.proofs.Common.{◌≡◌, ℕ, ◌==◌, nat_lt, Bool, true, false, cond, not, ◌&&◌, ◌||◌, ◌⊎◌, List, [], ◌∷◌, ◌++◌, Option, Some, refl, sym, subst, inl, inr, arith}
use Rattle.std.proofs.lemmas.Bool.Decides.{nat_tests}
use Rattle.role_steps.proofs.of_plain_facts.Tests.{both_true, not_false, or_other}
use Rattle.locus_ids.specs.declared.ids.EpochId.{EpochId}
use Rattle.trace_book.specs.Same.{same_epoch}
use Rattle.trace_book.specs.declared.record.Record.{Record}
use Rattle.wire_messages.specs.Bodies.{kind_number}
use Rattle.wire_messages.specs.declared.packet.Packet.{Packet}
use Rattle.wire_messages.specs.declared.body.Body.{Body}
use Rattle.role_steps.specs.Own.{Every}
use Rattle.role_steps.specs.Views.{SiteView, Told, Shown, boot_in}
use Rattle.role_steps.specs.declared.rounds.InEpoch.{InEpoch}
use Rattle.the_run.specs.Steps.{is_dropped, is_forming, is_framed}
use Rattle.site_laws.specs.Vectors.Written.{WasTold}
use Rattle.site_laws.specs.Vectors.Facts.{onto}
use Rattle.site_laws.proofs.Makes.Telling.{Plain, any_record}

-- ---- what is told now, and what was told before ----

-- one of these tells it
abbrev pub TellsOne : (Told → Type 0) → List Told → Type 0
TellsOne P [] = ⊥
TellsOne P (x ∷ xs) = P x ⊎ TellsOne P xs

pub told_now : (P : Told → Type 0) (told past : List Told) → WasTold P (onto told past) → TellsOne P told ⊎ WasTold P past
told_now P [] past h = inr h
told_now P (x ∷ xs) past h = by_rest (told_now P xs (x ∷ past) h)
  where
    by_rest : TellsOne P xs ⊎ WasTold P (x ∷ past) → TellsOne P (x ∷ xs) ⊎ WasTold P past
    by_rest (inl k) = inl (inr k)
    by_rest (inr (inl k)) = inl (inl k)
    by_rest (inr (inr k)) = inr k

pub none_told : (P Q : Told → Type 0) (xs : List Told) → ((x : Told) → Q x → P x → ⊥) → Every Q xs → TellsOne P xs → ⊥
none_told P Q [] f h k = k
none_told P Q (x ∷ xs) f h (inl k) = f x h.0 k
none_told P Q (x ∷ xs) f h (inr k) = none_told P Q xs f h.1 k

pub one_append : (P : Told → Type 0) (xs ys : List Told) → TellsOne P (xs ++ ys) → TellsOne P xs ⊎ TellsOne P ys
one_append P [] ys h = inr h
one_append P (x ∷ xs) ys (inl h) = inl (inl h)
one_append P (x ∷ xs) ys (inr h) = by_rest (one_append P xs ys h)
  where
    by_rest : TellsOne P xs ⊎ TellsOne P ys → TellsOne P (x ∷ xs) ⊎ TellsOne P ys
    by_rest (inl k) = inl (inr k)
    by_rest (inr k) = inr k

-- ---- what is written is a commit or an adoption ----

pub cut_plain : (b : Bool) (r : Record) (x : Told) → Plain x → Every Plain (cond b (Shown r ∷ x ∷ []) (x ∷ []))
cut_plain true r x h = (any_record r, (h, tt))
cut_plain false r x h = (h, tt)

-- ---- the epoch of a packet that is taken ----

same_epoch_eq : (a b : EpochId) → same_epoch a b ≡ true → a ≡ b
same_epoch_eq a b h = id_eq (grind (arith, nat_tests)) (grind (arith, nat_tests)) (grind (arith, nat_tests))
  where
    id_eq : a.number ≡ b.number → a.site ≡ b.site → a.boot ≡ b.boot → a ≡ b
    id_eq e f g = λ i. record { number = e i; site = f i; boot = g i }

-- it is the epoch of the site
pub taken_epoch : (p : Packet) (x : Body) (v : SiteView) (e : InEpoch) → p.body ≡ x → nat_lt (kind_number x) 6 ≡ false → is_dropped p v ≡ false → v.epoch ≡ Some e → p.epoch ≡ e.id
taken_epoch p x v e q inside h here =
    let forming : is_forming p ≡ false = subst (λ (y : Body). nat_lt (kind_number y) 6 ≡ false) (sym q) inside in
    let a : ((p.to_boot == v.boot) ≡ true) × ((is_forming p || is_framed p v.epoch) ≡ true) = both_true (p.to_boot == v.boot) (is_forming p || is_framed p v.epoch) (not_false ((p.to_boot == v.boot) && (is_forming p || is_framed p v.epoch)) h) in
    let b : is_framed p (Some e) ≡ true = subst (λ (o : Option InEpoch). is_framed p o ≡ true) here (or_other (is_forming p) (is_framed p v.epoch) forming a.1) in
    sym (same_epoch_eq e.id p.epoch (both_true (same_epoch e.id p.epoch) (boot_in e.members.boot p.from == p.from_boot) b).0)

-- and its sender is a member with its boot number
pub taken_boot : (p : Packet) (x : Body) (v : SiteView) (e : InEpoch) → p.body ≡ x → nat_lt (kind_number x) 6 ≡ false → is_dropped p v ≡ false → v.epoch ≡ Some e → boot_in e.members.boot p.from ≡ p.from_boot
taken_boot p x v e q inside h here =
    let forming : is_forming p ≡ false = subst (λ (y : Body). nat_lt (kind_number y) 6 ≡ false) (sym q) inside in
    let a : ((p.to_boot == v.boot) ≡ true) × ((is_forming p || is_framed p v.epoch) ≡ true) = both_true (p.to_boot == v.boot) (is_forming p || is_framed p v.epoch) (not_false ((p.to_boot == v.boot) && (is_forming p || is_framed p v.epoch)) h) in
    let b : is_framed p (Some e) ≡ true = subst (λ (o : Option InEpoch). is_framed p o ≡ true) here (or_other (is_forming p) (is_framed p v.epoch) forming a.1) in
    test_same (boot_in e.members.boot p.from) p.from_boot (both_true (same_epoch e.id p.epoch) (boot_in e.members.boot p.from == p.from_boot) b).1
  where
    test_same : (m n : ℕ) → (m == n) ≡ true → m ≡ n
    test_same m n k = grind (arith, nat_tests)
