-- A boot that is cut off: the call is one of the boot's.
use Rattle.std.proofs.Common.{◌≡◌, ◌<◌, ℕ, zero, suc, ◌*◌, Bool, true, false, cond, List, [], ◌∷◌, ◌++◌, length, map, Option, Some, refl, ◌∙◌, ap, subst, arith}
use Rattle.locus_ids.specs.declared.ids.FileId.{FileId}
use Rattle.disk_calls.specs.Boots.{calls_of_boot}
use Rattle.the_run.specs.Disks.{Disk as DiskLeft, Armed as Script, Cut, BootWrite, ClosesLosing, WritesBody, OpensHalf, ClosesOther, ClosesGate, boot_writes, written, Booted, Whole, CutOff, boots_armed}

-- fewer calls passed than are made by a write and a sync each
pub cut_short : (a : Script) (left : ℕ) (xs : List BootWrite) (d y : DiskLeft) (how : Cut) → boots_armed a left xs d ≡ CutOff y how → (left < 2 * length xs) × (a.how ≡ how)
cut_short a left [] d y how e = absurd (never d (Some (record a { left = left })) y how e)
  where
    never : (d : DiskLeft) (s : Option Script) (y : DiskLeft) (how : Cut) → ◌≡◌ {A = Booted} (Whole d s) (CutOff y how) → ⊥
    never d s y how e = cc
cut_short a zero (x ∷ xs) d y how e = (some (length xs), same a.how how _ y e)
  where
    some : (n : ℕ) → 0 < 2 * suc n
    some n = omega arith

    same : (h g : Cut) (x y : DiskLeft) → ◌≡◌ {A = Booted} (CutOff x h) (CutOff y g) → h ≡ g
    same h g x y e = cc
cut_short a (suc zero) (x ∷ xs) d y how e = (some (length xs), same a.how how _ y e)
  where
    some : (n : ℕ) → 1 < 2 * suc n
    some n = omega arith

    same : (h g : Cut) (x y : DiskLeft) → ◌≡◌ {A = Booted} (CutOff x h) (CutOff y g) → h ≡ g
    same h g x y e = cc
cut_short a (suc (suc left)) (x ∷ xs) d y how e = (let k : (left < 2 * length xs) × (a.how ≡ how) = cut_short a left xs (written x d) y how e in (two left (length xs) k.0, k.1))
  where
    two : (l n : ℕ) → l < 2 * n → suc (suc l) < 2 * suc n
    two l n h = omega (arith, h)

mapped : (files : List FileId) → length (map ClosesGate files) ≡ length files
mapped [] = refl
mapped (f ∷ files) = ap suc (mapped files)

-- a boot makes as many calls as it writes twice
pub boot_calls : (halves slots : Bool) (y : DiskLeft) → halves ≡ y.label.both_open → length y.both_open ≡ cond slots 1 0 → 2 * length (boot_writes y) ≡ calls_of_boot halves slots
boot_calls halves slots y h e = subst (λ (b : Bool). 2 * length (cond b (ClosesLosing ∷ []) [] ++ (WritesBody ∷ OpensHalf ∷ ClosesOther ∷ map ClosesGate y.both_open)) ≡ calls_of_boot halves slots) h (by halves slots (mapped y.both_open ∙ e))
  where
    by : (halves slots : Bool) → length (map ClosesGate y.both_open) ≡ cond slots 1 0 → 2 * length (cond halves (ClosesLosing ∷ []) [] ++ (WritesBody ∷ OpensHalf ∷ ClosesOther ∷ map ClosesGate y.both_open)) ≡ calls_of_boot halves slots
    by true true k = omega (arith, k)
    by true false k = omega (arith, k)
    by false true k = omega (arith, k)
    by false false k = omega (arith, k)
