-- What a store tells where it is asked to open, and which number it reserves.
use Rattle.std.proofs.Common.{◌≡◌, ℕ, zero, suc, ◌+◌, ◌-◌, ◌*◌, ◌==◌, Bool, true, false, cond, ◌&&◌, ◌||◌, ◌⊎◌, List, [], ◌∷◌, Option, Some, None, refl, sym, subst, inl, inr, arith}
use Rattle.std.proofs.lemmas.Bool.Decides.{nat_tests}
use Rattle.std.specs.List.{list_any}
use Rattle.role_steps.proofs.of_plain_facts.Options.{none_some, some_same}
use Rattle.role_steps.proofs.of_plain_facts.Tests.{or_neither}
use Rattle.locus_ids.specs.declared.ids.FileId.{FileId}
use Rattle.locus_ids.specs.declared.ids.Mode.{Mode}
use Rattle.locus_ids.specs.declared.ids.Mode.TheVariants as mode
use Rattle.locus_ids.specs.Sizes.{site_inodes}
use Rattle.role_steps.specs.Views.{Frame, Store, Told, Begins, Reserves}
use Rattle.role_steps.specs.Storage.{StoreRequest, is_held, is_making, is_used, next_ino, own_ino, instance_of, opens, opens_made, on_open_ss_of, on_open_ss}
use Rattle.role_steps.specs.declared.copies.FileCopy.{FileCopy}
use Rattle.role_steps.specs.declared.instances.Instance.{Instance}
use Rattle.site_laws.specs.Locks.Locks.{IsOfAFile}
use Rattle.site_laws.specs.Makes.Made.{HasCopy}

-- ---- numbers ----

next_unused : (s : Store) (group ino left k : ℕ) → next_ino s group ino left ≡ Some k → is_used s group k ≡ false
next_unused s group ino zero k h = absurd (none_some k h)
next_unused s group ino (suc left) k h = (elim (is_used s group ino) as (λ b. is_used s group ino ≡ b → ◌≡◌ {A = Option ℕ} (elim b [ true ↦ next_ino s group (ino + 1) left | false ↦ Some ino ]) (Some k) → is_used s group k ≡ false) [
  | true ↦ λ e g. next_unused s group (ino + 1) left k g
  | false ↦ λ e g. subst (λ (n : ℕ). is_used s group n ≡ false) (some_same ino k g) e
]) refl h

first_false : (a b : Bool) → cond a true b ≡ false → (a ≡ false) × (b ≡ false)
first_false true b h = absurd (cc)
first_false false b h = (refl, h)

held_same : (group ino : ℕ) (x : FileCopy) → x.file ≡ record { group = group; ino = ino } → is_held group ino x ≡ false → ⊥
held_same group ino x e h = not_held (subst (λ (f : FileId). ((f.group == group) && (f.ino == ino)) ≡ false) e h)
  where
    not_held : ((group == group) && (ino == ino)) ≡ false → ⊥
    not_held k = grind (arith, nat_tests)

none_held : (group ino : ℕ) (xs : List FileCopy) → list_any (is_held group ino) xs ≡ false → HasCopy (record { group = group; ino = ino }) xs → ⊥
none_held group ino [] h k = absurd k
none_held group ino (x ∷ xs) h (inl same) = held_same group ino x same (or_neither (is_held group ino x) (list_any (is_held group ino) xs) h).0
none_held group ino (x ∷ xs) h (inr rest) = none_held group ino xs (or_neither (is_held group ino x) (list_any (is_held group ino) xs) h).1 rest

pub unused_none : (s : Store) (group ino : ℕ) → is_used s group ino ≡ false → HasCopy (record { group = group; ino = ino }) s.copies → ⊥
unused_none s group ino h k = none_held group ino s.copies (first_false (list_any (is_held group ino) s.copies) (list_any (is_making group ino) s.instances) h).0 k

-- ---- what is told ----

abbrev pub made_file : StoreRequest → ℕ → FileId
made_file r ino = record { group = r.file.group; ino = ino }

-- a make for which the store has a number
pub record IsMade (f : Frame) (r : StoreRequest) (s : Store) (told : List Told) : Type 0 where
  pub mode_is : r.mode ≡ mode.Make
  pub ino : ℕ
  pub unused : is_used s r.file.group ino ≡ false
  pub told_is : told ≡ Begins f.me f.epoch r.inst (made_file r ino) ∷ Reserves f.me f.epoch r.inst (made_file r ino) ∷ []

pub record IsPlain (f : Frame) (r : StoreRequest) (told : List Told) : Type 0 where
  pub of_a_file : IsOfAFile r.mode
  pub told_is : told ≡ Begins f.me f.epoch r.inst r.file ∷ []

-- nothing, the begin of an instance of the file, or that of one that makes a file
abbrev pub OpenTold : Frame → StoreRequest → Store → List Told → Type 0
OpenTold f r s told = (told ≡ []) ⊎ (IsPlain f r told ⊎ IsMade f r s told)

made_told : (f : Frame) (r : StoreRequest) (o : Option ℕ) (s : Store) → r.mode ≡ mode.Make → own_ino s r.file.group f.me ≡ o → OpenTold f r s (opens_made f r o s).told
made_told f r None s m e = inl refl
made_told f r (Some ino) s m e = inr (inr (record { mode_is = m; ino = ino; unused = next_unused s r.file.group (site_inodes * (f.me - 1) + 1) site_inodes ino e; told_is = refl }))

opens_told : (f : Frame) (r : StoreRequest) (m : Mode) (s : Store) → r.mode ≡ m → OpenTold f r s (opens f r m s).told
opens_told f r mode.Make s e = made_told f r (own_ino s r.file.group f.me) s e refl
opens_told f r mode.Read s e = inr (inl (record { of_a_file = subst IsOfAFile (sym e) tt; told_is = refl }))
opens_told f r mode.Write s e = inr (inl (record { of_a_file = subst IsOfAFile (sym e) tt; told_is = refl }))
opens_told f r mode.Resolve s e = inr (inl (record { of_a_file = subst IsOfAFile (sym e) tt; told_is = refl }))
opens_told f r mode.Mend s e = inr (inl (record { of_a_file = subst IsOfAFile (sym e) tt; told_is = refl }))

open_of_told : (f : Frame) (r : StoreRequest) (o : Option Instance) (s : Store) → OpenTold f r s (on_open_ss_of f r o s).told
open_of_told f r None s = opens_told f r r.mode s refl
open_of_told f r (Some i) s = inl refl

pub open_told : (f : Frame) (r : StoreRequest) (s : Store) → OpenTold f r s (on_open_ss f r s).told
open_told f r s = open_of_told f r (instance_of s r.inst) s
