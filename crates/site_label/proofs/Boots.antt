-- A boot, from the closing of a losing half and the raising.
use Rattle.std.proofs.Common.{◌≡◌, ◌⊎◌, inl, ℕ, ◌+◌, ◌≤◌, Bool, true, false, List, refl, sym, ◌∙◌, ap, subst}
use Rattle.std.specs.Prelude.{Result, Ok, Err, IsErr, IsErrAnd, ◌&&◌, if◌then◌else◌}
use Rattle.std.proofs.lemmas.Bool.{false≢true}
use Rattle.disk_model.specs.Images.{Torn, Same}
use Rattle.disk_model.specs.Disk.{Moment, Goes, IsSettled, Passing, TellsRead}
use Rattle.disk_model.specs.Moments.{LeavesOnly, TellsMany}
use Rattle.disk_model.proofs.Moments.{leaves_weaker}
use Rattle.disk_model.specs.declared.disk.DiskFault.{DiskFault}
use Rattle.disk_model.specs.declared.disk.DiskFault.TheVariants.{Failed}
use Rattle.disk_model.proofs.Tells.{tells_longer}
use Rattle.disk_model.proofs.ReadRuns.{reads_then, leaves_same, leaves_joins}
use Rattle.gate_switch.proofs.Tearing.{torn_joins, torn_stays}
use Rattle.site_label.specs.declared.half.Half.{Half}
use Rattle.site_label.specs.declared.half.Half.TheVariants.{First, Second}
use Rattle.site_label.specs.declared.reading.Counted.{Counted}
use Rattle.site_label.specs.declared.label_fault.LabelFault.{LabelFault}
use Rattle.site_label.specs.Label.{label_bytes, HasBoot, is_open, other_half, Says}
use Rattle.site_label.specs.Reading.{IsCounted, IsBeside}
use Rattle.site_label.specs.Raising.{IsRaising, MayBeLeft, are_open}
use Rattle.site_label.proofs.Halves.{one_boot, says_open}

-- before the first write
pub left_at_start : (site : ℕ) (old : List ℕ) → MayBeLeft site old old
left_at_start site old = record { number = λ boot has. inl has; outside = torn_stays 0 label_bytes old }

-- while the number that the label had is raised
pub left_after : (site boot : ℕ) (old mid c : List ℕ) → HasBoot site boot old → Torn 0 label_bytes old mid → IsRaising site boot mid c → MayBeLeft site old c
left_after site boot old mid c has before raising = record {
  number = λ other is. subst (λ (n : ℕ). HasBoot site n c ⊎ HasBoot site (n + 1) c) (one_boot site boot other old has is) raising.number;
  outside = torn_joins 0 label_bytes old mid c before raising.outside;
}

module _ {D : Type 0} (moment : D → Moment) (old mid : D) where
  -- up to the closing of the half that doesn't count
  pub leaves_front : (next : D) (site boot : ℕ) → HasBoot site boot (moment old).seen → IsSettled (moment old) → ((c : List ℕ) → (moment old).may_have_left (moment old).now c → (moment old).may_leave c) → Goes Same (moment old) (moment mid)
      → (moment mid).seen ≡ (moment old).seen → LeavesOnly (moment mid) (moment next) (IsRaising site boot (moment mid).seen) → LeavesOnly (moment old) (moment next) (MayBeLeft site (moment old).seen)
  leaves_front next site boot has settled only_now reads same closes =
      leaves_joins moment old mid next (MayBeLeft site (moment old).seen)
      (leaves_same moment old mid (moment old).seen (MayBeLeft site (moment old).seen) settled only_now reads (left_at_start site (moment old).seen))
      (leaves_weaker moment mid next (IsRaising site boot (moment mid).seen) (MayBeLeft site (moment old).seen)
      (λ x raising. left_after site boot (moment old).seen (moment old).seen x has (torn_stays 0 label_bytes (moment old).seen) (subst (λ (l : List ℕ). IsRaising site boot l x) same raising))
      closes)

  -- and with the raising
  pub leaves_whole : (next new : D) (site boot : ℕ) → HasBoot site boot (moment old).seen → IsSettled (moment old) → ((c : List ℕ) → (moment old).may_have_left (moment old).now c → (moment old).may_leave c) → Goes Same (moment old) (moment mid)
      → (moment mid).seen ≡ (moment old).seen → LeavesOnly (moment mid) (moment next) (IsRaising site boot (moment mid).seen) → Torn 0 label_bytes (moment mid).seen (moment next).seen
      → LeavesOnly (moment next) (moment new) (IsRaising site boot (moment next).seen) → LeavesOnly (moment old) (moment new) (MayBeLeft site (moment old).seen)
  leaves_whole next new site boot has settled only_now reads same closes outside raises =
      leaves_joins moment old next new (MayBeLeft site (moment old).seen)
      (leaves_front next site boot has settled only_now reads same closes)
      (leaves_weaker moment next new (IsRaising site boot (moment next).seen) (MayBeLeft site (moment old).seen)
      (λ x raising. left_after site boot (moment old).seen (moment next).seen x has (subst (λ (l : List ℕ). Torn 0 label_bytes l (moment next).seen) same outside) raising)
      raises)

-- both halves are open where one stands beside the one that counts
pub beside_open : (site : ℕ) (image : List ℕ) (c : Counted) → IsCounted site image c → are_open image ≡ c.beside
beside_open site image c is = by c.half c.beside is.says is.beside
  where
    opens : (half : Half) (b : Bool) → IsBeside site c.boot half image b → is_open image half ≡ b
    opens half false shut = shut
    opens half true less = says_open site less.0 half image less.2

    by : (half : Half) (b : Bool) → Says site c.boot half image → IsBeside site c.boot (other_half half) image b → are_open image ≡ b
    by First b says beside = (λ i. says_open site c.boot First image says i && opens Second b beside i) ∙ front b
      where
        front : (b : Bool) → (true && b) ≡ b
        front true = refl
        front false = refl
    by Second b says beside = (λ i. opens First b beside i && says_open site c.boot Second image says i) ∙ back b
      where
        back : (b : Bool) → (b && true) ≡ b
        back true = refl
        back false = refl

-- how many calls that makes
pub calls_are : (a b : Bool) → a ≡ b → (let n : ℕ = if b then 2 else 0 in n + 6) ≡ (if a then 8 else 6)
calls_are a true e = sym (ap (λ (x : Bool). let n : ℕ = if x then 8 else 6 in n) e)
calls_are a false e = sym (ap (λ (x : Bool). let n : ℕ = if x then 8 else 6 in n) e)

-- a run that fails behind reads, as the front of a longer one
pub failed_tells : (n m : ℕ) (p q r : Passing) (fault : DiskFault) → n ≤ m → TellsRead {T = Unit {0}} {E = DiskFault} p q (Ok tt) → TellsMany {T = Unit {0}} {E = DiskFault} n q r (Err fault) → TellsMany {T = Unit {0}} {E = DiskFault} m p r (Err Failed)
failed_tells n m p q r Failed le reads tells = tells_longer n m p r Failed le (reads_then n p q r (Err Failed) reads tells)

-- the fault that is given on
pub given_on : {T : Type 0} → (r : Result T LabelFault) (P : LabelFault → Type 0) → IsErr r × IsErrAnd r P → (fault : LabelFault) × (r ≡ Err fault) × P fault
given_on (Ok x) P h = absurd (false≢true h.0)
given_on (Err fault) P h = (fault, refl, h.1)
