-- A storage site's answer to an open that it was asked for.
use Rattle.std.proofs.Common.{◌≡◌, ℕ, true, false, List, Option, Some, None, refl, ap, ◌∙◌, sym, nat_eq, ◌∷◌, [], arith}
use Rattle.std.specs.Option.{option_map}
use Rattle.std.proofs.lemmas.Bool.Decides.{nat_tests}
use Rattle.locus_ids.specs.declared.ids.Serial.{Serial}
use Rattle.wire_messages.specs.declared.body.OpenedAs.{OpenedAs}
use Rattle.wire_messages.specs.declared.body.OpenedAs.TheVariants as opened
use Rattle.role_steps.specs.Tables.{row, with_latest}
use Rattle.role_steps.specs.Views.{Frame, Outcome}
use Rattle.role_steps.specs.Opens.{open_key, open_row, by_stage, on_opened, on_opened_of}
use Rattle.role_steps.specs.declared.synchronizing.SyncTable.{SyncTable}
use Rattle.role_steps.specs.declared.synchronizing.OpenRow.{OpenRow}
use Rattle.role_steps.specs.declared.synchronizing.OpenStage.{OpenStage}
use Rattle.role_steps.specs.declared.synchronizing.OpenStage.TheVariants as stage
use Rattle.css_opens.specs.Settled.{is_asked, is_asked_stage, settled_row, settled_rows}
use Rattle.css_opens.specs.declared.entry.Settling.{Settling}
use Rattle.css_opens.specs.declared.entry.Settling.TheVariants.{Grant, Refuse, End}
use Rattle.css_core.specs.Closed.{settled_sent, settled_told}

abbrev pub settling_of : OpenedAs → Settling
settling_of (opened.Open ino size) = Grant ino size
settling_of (opened.No why) = Refuse why

asked_stage : (s : OpenStage) → is_asked_stage s ≡ true → s ≡ stage.Asked
asked_stage stage.Asked e = refl
asked_stage stage.Granted e = absurd (cc)
asked_stage (stage.Refused why) e = absurd (cc)
asked_stage stage.Ended e = absurd (cc)

abbrev pub outcome_as : Frame → Serial → Settling → Option OpenRow → SyncTable → Outcome SyncTable
outcome_as f inst s o t = record { view = record t { opens = settled_rows s o t.opens }; sent = settled_sent f (option_map (settled_row s) o); told = settled_told f (option_map (settled_row s) o); written = None }

opened_row : (f : Frame) (inst : Serial) (a : OpenedAs) (t : SyncTable) (r : OpenRow) → by_stage f r a stage.Asked t ≡ outcome_as f inst (settling_of a) (Some r) t
opened_row f inst (opened.Open ino size) t r = refl
opened_row f inst (opened.No why) t r = refl

opened_of : (f : Frame) (inst : Serial) (a : OpenedAs) (t : SyncTable) (o : Option OpenRow) → is_asked o ≡ true → on_opened_of f a o t ≡ outcome_as f inst (settling_of a) o t
opened_of f inst a t None e = absurd (cc)
opened_of f inst a t (Some r) e = ap (λ s. by_stage f r a s t) (asked_stage r.stage e) ∙ opened_row f inst a t r

pub opened_as : (f : Frame) (inst : Serial) (a : OpenedAs) (t : SyncTable) → is_asked (open_row t inst) ≡ true → on_opened f inst a t ≡ outcome_as f inst (settling_of a) (open_row t inst) t
opened_as f inst a t e = opened_of f inst a t (open_row t inst) e

-- ---- what is found once it is settled ----

found_row : {A : Type 0} (key : A → ℕ) (k : ℕ) (xs : List A) (a : A) → row key k xs ≡ Some a → key a ≡ k
found_row key k [] a e = absurd (cc)
found_row {A = A} key k (x ∷ xs) a e = elim (nat_eq (key x) k) as (λ b. nat_eq (key x) k ≡ b → ◌≡◌ {A = Option A} (elim b [ true ↦ Some x | false ↦ row key k xs ]) (Some a) → key a ≡ k) [
  | true ↦ λ t f. (let same : x ≡ a = cc in let h : key x ≡ k = (grind (arith, nat_tests)) in ap key (sym same) ∙ h)
  | false ↦ λ t f. found_row key k xs a f
] refl e

alike : (n : ℕ) → nat_eq n n ≡ true
alike n = grind (arith, nat_tests)

latest_found : {A : Type 0} (key : A → ℕ) (x : A) (xs : List A) → row key (key x) (with_latest key x xs) ≡ Some x
latest_found key x [] = rw (alike (key x), row) refl
latest_found {A = A} key x (y ∷ ys) = elim (nat_eq (key y) (key x)) as (λ b. nat_eq (key y) (key x) ≡ b → row key (key x) (elim b [ true ↦ x ∷ ys | false ↦ y ∷ with_latest key x ys ]) ≡ Some x) [
  | true ↦ λ t. rw (alike (key x), row) refl
  | false ↦ λ t. rw (t, row) (latest_found key x ys)
] refl

settled_key : (s : Settling) (r : OpenRow) → open_key (settled_row s r) ≡ open_key r
settled_key (Grant ino size) r = refl
settled_key (Refuse why) r = refl
settled_key End r = refl

settled_some : (s : Settling) (k : ℕ) (rows : List OpenRow) (o : Option OpenRow) → row open_key k rows ≡ o → is_asked o ≡ true → row open_key k (settled_rows s o rows) ≡ option_map (settled_row s) o
settled_some s k rows None e a = absurd (cc)
settled_some s k rows (Some r) e a =
    ap (λ j. row open_key j (with_latest open_key (settled_row s r) rows)) (sym (settled_key s r ∙ found_row open_key k rows r e))
    ∙ latest_found open_key (settled_row s r) rows

pub settled_found : (s : Settling) (k : ℕ) (rows : List OpenRow) → is_asked (row open_key k rows) ≡ true → row open_key k (settled_rows s (row open_key k rows) rows) ≡ option_map (settled_row s) (row open_key k rows)
settled_found s k rows a = settled_some s k rows (row open_key k rows) refl a
