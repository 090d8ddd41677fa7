-- A boot of a site whose disk is armed: how many calls it makes, and which gates are open where it is cut off.
use Rattle.std.proofs.Common.{◌≡◌, ℕ, zero, suc, ◌+◌, ◌-◌, nat_lt, Bool, true, false, cond, not, ◌&&◌, List, [], ◌∷◌, ◌++◌, length, map, Option, Some, None, refl, sym, ◌∙◌, ap, subst, arith}
use Rattle.std.proofs.lemmas.Bool.Decides.{nat_tests}
use Rattle.role_steps.proofs.of_plain_facts.Numbers.{equal_self}
use Rattle.locus_ids.specs.declared.ids.FileId.{FileId}
use Rattle.disk_calls.specs.Versions.{are_left_open}
use Rattle.disk_calls.specs.Boots.{label_writing, calls_of_label, calls_of_boot, is_loser_open, are_halves_open, are_slots_open}
use Rattle.role_steps.specs.Views.{SiteView, file_key}
use Rattle.the_run.specs.Disks.{Disk as DiskLeft, Armed as Script, Cut, BootWrite, ClosesLosing, WritesBody, OpensHalf, ClosesOther, ClosesGate, boot_writes, written as boot_written, gate_left, Booted, Whole, CutOff, boots, boots_armed}
use Rattle.the_run.specs.Worlds.{Running, Stopped}
use Rattle.lawful_trace.specs.Disks.{Armed, calls_of, cut_of, stopped_with}
use Rattle.headline_laws.specs.WholeRuns.Wrote.{Disk, disk_booted, disk_stopped, halves_booted, slots_stopped}
use Rattle.headline_laws.specs.WholeRuns.CutCounts.{SameArming, CountsAs, CountsAt}
use Rattle.headline_laws.proofs.WholeRuns.CutGates.{cut_same}

-- ---- by how many calls pass ----

-- the gates where so many calls passed before the one that was cut off
record CutAs (how : Cut) (h sl : Bool) (left : ℕ) (y : DiskLeft) : Type 0 where
  halves : are_halves_open h how left ≡ y.label.both_open
  slots : length y.both_open ≡ cond (are_slots_open h sl how left) 1 0

abbrev BootsAs : Script → Bool → Bool → ℕ → Booted → Type 0
BootsAs x h sl left (Whole y None) = ⊥
BootsAs x h sl left (Whole y (Some z)) = (z.how ≡ x.how) × (calls_of_boot h sl + z.left ≡ left)
BootsAs x h sl left (CutOff y how) = CutAs x.how h sl left y

-- ---- one write that is cut off ----

-- a gate was to be opened
open_left : (l g : Bool) (y n : DiskLeft) → l ≡ g → y.label.both_open ≡ true → n.label.both_open ≡ false → (l && true) ≡ (cond g y n).label.both_open
open_left l true y n e p q = ap (λ (b : Bool). b && true) e ∙ sym p
open_left l false y n e p q = ap (λ (b : Bool). b && true) e ∙ sym q

-- or closed
close_left : (l g : Bool) (y n : DiskLeft) → l ≡ g → y.label.both_open ≡ false → n.label.both_open ≡ true → l ≡ (cond (not g) y n).label.both_open
close_left l true y n e p q = e ∙ sym q
close_left l false y n e p q = e ∙ sym p

either_slots : (g : Bool) (y n : DiskLeft) (k : ℕ) → length y.both_open ≡ k → length n.both_open ≡ k → length (cond g y n).both_open ≡ k
either_slots true y n k p q = p
either_slots false y n k p q = q

-- the slots are as they were
slots_stay : (sl : Bool) (k : ℕ) → k ≡ cond sl 1 0 → k ≡ cond (sl && true) 1 0
slots_stay true k e = e
slots_stay false k e = e

-- the gate of a file
gate_closed : (f : FileId) (y : DiskLeft) → y.both_open ≡ f ∷ [] → length (boot_written (ClosesGate f) y).both_open ≡ 0
gate_closed f y e = subst (λ (fs : List FileId). length (boot_written (ClosesGate f) (record y { both_open = fs })).both_open ≡ 0) (sym e) (ap (λ (b : Bool). length (elim b as (λ (x : Bool). List FileId) [ true ↦ [] | false ↦ f ∷ [] ])) (equal_self (file_key f)))

slot_left : (l g : Bool) (f : FileId) (y : DiskLeft) → l ≡ g → y.both_open ≡ f ∷ [] → length (cond (not g) (boot_written (ClosesGate f) y) y).both_open ≡ cond l 1 0
slot_left l true f y e p = ap length p ∙ sym (ap (λ (b : Bool). cond b 1 0) e)
slot_left l false f y e p = gate_closed f y p ∙ sym (ap (λ (b : Bool). cond b 1 0) e)

-- ---- the files, after the label ----

file_flag : (f : FileId) (y : DiskLeft) → y.label.both_open ≡ false → (b : Bool) → false ≡ (cond b (boot_written (ClosesGate f) y) y).label.both_open
file_flag f y e true = sym e
file_flag f y e false = sym e

files_booted : (x : Script) (h sl : Bool) (files : List FileId) (y : DiskLeft) → y.both_open ≡ files → y.label.both_open ≡ false → length files ≡ cond sl 1 0 → (left : ℕ) → BootsAs x h sl (calls_of_label h + left) (boots_armed x left (map ClosesGate files) y)
files_booted x h true [] y fs flag e left = absurd (cc)
files_booted x h false [] y fs flag e left = (refl, whole h)
  where
    whole : (h : Bool) → calls_of_boot h false + left ≡ calls_of_label h + left
    whole true = omega arith
    whole false = omega arith
files_booted x h false (f ∷ files) y fs flag e left = absurd (cc)
files_booted x h true (f ∷ g ∷ files) y fs flag e left = absurd (cc)
files_booted x true true (f ∷ []) y fs flag e zero = record { halves = file_flag f y flag (not (gate_left x.how true true false)); slots = slot_left (gate_left x.how true true false) (gate_left x.how true true false) f y refl fs }
files_booted x false true (f ∷ []) y fs flag e zero = record { halves = file_flag f y flag (not (gate_left x.how true true false)); slots = slot_left (gate_left x.how true true false) (gate_left x.how true true false) f y refl fs }
files_booted x true true (f ∷ []) y fs flag e (suc zero) = record { halves = file_flag f y flag (not (gate_left x.how false true false)); slots = slot_left (gate_left x.how false true false) (gate_left x.how false true false) f y refl fs }
files_booted x false true (f ∷ []) y fs flag e (suc zero) = record { halves = file_flag f y flag (not (gate_left x.how false true false)); slots = slot_left (gate_left x.how false true false) (gate_left x.how false true false) f y refl fs }
files_booted x h true (f ∷ []) y fs flag e (suc (suc left)) = (refl, whole h)
  where
    whole : (h : Bool) → calls_of_boot h true + left ≡ calls_of_label h + suc (suc left)
    whole true = omega arith
    whole false = omega arith

-- ---- the label ----

-- one half is open
half_booted : (x : Script) (sl : Bool) (y : DiskLeft) → y.label.both_open ≡ false → length y.both_open ≡ cond sl 1 0 → (left : ℕ) → BootsAs x false sl left (boots_armed x left (WritesBody ∷ OpensHalf ∷ ClosesOther ∷ map ClosesGate y.both_open) y)
half_booted x sl y flag e zero = record { halves = sym flag; slots = slots_stay sl (length y.both_open) e }
half_booted x sl y flag e (suc zero) = record { halves = sym flag; slots = slots_stay sl (length y.both_open) e }
half_booted x sl y flag e (suc (suc zero)) = record {
  halves = open_left (gate_left x.how true false true) (gate_left x.how true false true) (boot_written OpensHalf y) y refl refl flag;
  slots = either_slots (gate_left x.how true false true) (boot_written OpensHalf y) y (cond (sl && true) 1 0) (slots_stay sl (length y.both_open) e) (slots_stay sl (length y.both_open) e);
}
half_booted x sl y flag e (suc (suc (suc zero))) = record {
  halves = open_left (gate_left x.how false false true) (gate_left x.how false false true) (boot_written OpensHalf y) y refl refl flag;
  slots = either_slots (gate_left x.how false false true) (boot_written OpensHalf y) y (cond (sl && true) 1 0) (slots_stay sl (length y.both_open) e) (slots_stay sl (length y.both_open) e);
}
half_booted x sl y flag e (suc (suc (suc (suc zero)))) =
    let z : DiskLeft = boot_written OpensHalf y in
    record {
      halves = close_left (gate_left x.how true true false) (gate_left x.how true true false) (boot_written ClosesOther z) z refl refl refl;
      slots = either_slots (not (gate_left x.how true true false)) (boot_written ClosesOther z) z (cond (sl && true) 1 0) (slots_stay sl (length y.both_open) e) (slots_stay sl (length y.both_open) e);
    }
half_booted x sl y flag e (suc (suc (suc (suc (suc zero))))) =
    let z : DiskLeft = boot_written OpensHalf y in
    record {
      halves = close_left (gate_left x.how false true false) (gate_left x.how false true false) (boot_written ClosesOther z) z refl refl refl;
      slots = either_slots (not (gate_left x.how false true false)) (boot_written ClosesOther z) z (cond (sl && true) 1 0) (slots_stay sl (length y.both_open) e) (slots_stay sl (length y.both_open) e);
    }
half_booted x sl y flag e (suc (suc (suc (suc (suc (suc left)))))) =
    subst (λ (n : ℕ). BootsAs x false sl n (boots_armed x left (map ClosesGate y.both_open) (boot_written ClosesOther (boot_written OpensHalf y)))) (six left) (files_booted x false sl y.both_open (boot_written ClosesOther (boot_written OpensHalf y)) refl refl e left)
  where
    six : (left : ℕ) → 6 + left ≡ suc (suc (suc (suc (suc (suc left)))))
    six left = omega arith

-- both are
both_booted : (x : Script) (sl : Bool) (y : DiskLeft) → y.label.both_open ≡ true → length y.both_open ≡ cond sl 1 0 → (left : ℕ) → BootsAs x true sl left (boots_armed x left (ClosesLosing ∷ WritesBody ∷ OpensHalf ∷ ClosesOther ∷ map ClosesGate y.both_open) y)
both_booted x sl y flag e zero = record {
  halves = close_left (gate_left x.how true true false) (gate_left x.how true true false) (boot_written ClosesLosing y) y refl refl flag;
  slots = either_slots (not (gate_left x.how true true false)) (boot_written ClosesLosing y) y (cond (sl && true) 1 0) (slots_stay sl (length y.both_open) e) (slots_stay sl (length y.both_open) e);
}
both_booted x sl y flag e (suc zero) = record {
  halves = close_left (gate_left x.how false true false) (gate_left x.how false true false) (boot_written ClosesLosing y) y refl refl flag;
  slots = either_slots (not (gate_left x.how false true false)) (boot_written ClosesLosing y) y (cond (sl && true) 1 0) (slots_stay sl (length y.both_open) e) (slots_stay sl (length y.both_open) e);
}
both_booted x sl y flag e (suc (suc left)) = later (boots_armed x left (WritesBody ∷ OpensHalf ∷ ClosesOther ∷ map ClosesGate y.both_open) (boot_written ClosesLosing y)) left (half_booted x sl (boot_written ClosesLosing y) refl e left)
  where
    late : (left : ℕ) → nat_lt (suc (suc left)) 2 ≡ false
    late left = grind (arith, nat_tests)

    after : (left : ℕ) → left - 0 ≡ suc (suc left) - 2
    after left = omega arith

    beyond : (left : ℕ) → left + 1 - 6 ≡ suc (suc left) + 1 - 8
    beyond left = omega arith

    cut_later : (left : ℕ) (z : DiskLeft) → CutAs x.how false sl left z → CutAs x.how true sl (suc (suc left)) z
    cut_later left z k = record {
      halves = ap (λ (b : Bool). cond b (is_loser_open x.how (suc (suc left) + 1)) (are_left_open label_writing x.how (suc (suc left) - 2))) (late left) ∙ (sym (ap (are_left_open label_writing x.how) (after left)) ∙ k.halves);
      slots = k.slots ∙ ap (λ (n : ℕ). cond (sl && is_loser_open x.how n) 1 0) (beyond left);
    }

    later : (b : Booted) (left : ℕ) → BootsAs x false sl left b → BootsAs x true sl (suc (suc left)) b
    later (Whole z None) left k = k
    later (Whole z (Some s)) left k = (k.0, more sl k.1)
      where
        more : (sl : Bool) → calls_of_boot false sl + s.left ≡ left → calls_of_boot true sl + s.left ≡ suc (suc left)
        more true e = omega (arith, e)
        more false e = omega (arith, e)
    later (CutOff z how) left k = cut_later left z k

label_booted : (x : Script) (h sl : Bool) (y : DiskLeft) → y.label.both_open ≡ h → length y.both_open ≡ cond sl 1 0 → (left : ℕ) → BootsAs x h sl left (boots_armed x left (cond h (ClosesLosing ∷ []) [] ++ (WritesBody ∷ OpensHalf ∷ ClosesOther ∷ map ClosesGate y.both_open)) y)
label_booted x true sl y flag e left = both_booted x sl y flag e left
label_booted x false sl y flag e left = half_booted x sl y flag e left

-- ---- a boot ----

-- by the lawful disk and the script of the site before it
abbrev pub BootCounts : Disk → Script → Booted → Type 0
BootCounts d x (Whole y None) = ⊥
BootCounts d x (Whole y (Some z)) = (u : SiteView) → CountsAt (disk_booted d) (Some z) (Some (Running u))
BootCounts d x (CutOff y how) = CountsAt (disk_stopped false d) None (Some (Stopped y))

passed : (used left calls : ℕ) → used + left ≡ calls → left ≡ calls - used
passed used left calls e = omega (arith, e)

used_more : (used boot rest left calls : ℕ) → boot + rest ≡ left → used + left ≡ calls → used + boot + rest ≡ calls
used_more used boot rest left calls e f = omega (arith, e, f)

counts_booted : (d : Disk) (o : Armed) (x : Script) (b : Booted) → d.rest.armed ≡ Some o → SameArming o.arming x.how → o.used + x.left ≡ calls_of o.arming → BootsAs x d.rest.halves d.slots x.left b → BootCounts d x b
counts_booted d o x (Whole y None) e same k g = absurd g
counts_booted d o x (Whole y (Some z)) e same k g = λ u. subst (λ (q : Option Armed). CountsAt (record { rest = halves_booted d.slots d.rest q; slots = false }) (Some z) (Some (Running u))) (sym e) (record {
  calls = (subst (SameArming o.arming) (sym g.0) same, used_more o.used (calls_of_boot d.rest.halves d.slots) z.left x.left (calls_of o.arming) g.1 k);
  gates = (refl, refl);
})
counts_booted d o x (CutOff y how) e same k g = subst (λ (q : Option Armed). CountsAt (record { rest = stopped_with false d.rest q; slots = slots_stopped false d.rest d.slots q }) None (Some (Stopped y))) (sym e) (record {
  calls = tt;
  gates = (
    subst (λ (n : ℕ). are_halves_open d.rest.halves (cut_of o.arming) n ≡ y.label.both_open) (passed o.used x.left (calls_of o.arming) k)
        (subst (λ (h : Cut). are_halves_open d.rest.halves h x.left ≡ y.label.both_open) (sym (cut_same o.arming x.how same)) g.halves),
    subst (λ (n : ℕ). length y.both_open ≡ cond (are_slots_open d.rest.halves d.slots (cut_of o.arming) n) 1 0) (passed o.used x.left (calls_of o.arming) k)
        (subst (λ (h : Cut). length y.both_open ≡ cond (are_slots_open d.rest.halves d.slots h x.left) 1 0) (sym (cut_same o.arming x.how same)) g.slots),
  );
})

pub boot_counts : (d : Disk) (x : Script) (y : DiskLeft) → CountsAt d (Some x) (Some (Stopped y)) → BootCounts d x (boots (Some x) y)
boot_counts d x y h = by_armed d.rest.armed refl h.calls
  where
    by_armed : (q : Option Armed) → d.rest.armed ≡ q → CountsAs q (Some x) → BootCounts d x (boots (Some x) y)
    by_armed None e k = absurd k
    by_armed (Some o) e k = counts_booted d o x (boots (Some x) y) e k.0 k.1 (subst (λ (b : Bool). BootsAs x b d.slots x.left (boots_armed x x.left (boot_writes y) y)) (sym h.gates.0) (label_booted x y.label.both_open d.slots y refl h.gates.1 x.left))

-- without a script
pub boot_free : (d : Disk) (u : SiteView) → CountsAs d.rest.armed None → CountsAt (disk_booted d) None (Some (Running u))
boot_free d u k = by_armed d.rest.armed k
  where
    by_armed : (q : Option Armed) → CountsAs q None → CountsAt (record { rest = halves_booted d.slots d.rest q; slots = false }) None (Some (Running u))
    by_armed None k = record { calls = tt; gates = (refl, refl) }
    by_armed (Some o) k = absurd k

-- the script that is left is the site's
abbrev pub GoesOn : Script → Booted → Type 0
GoesOn x (Whole y None) = ⊥
GoesOn x (Whole y (Some z)) = z.site ≡ x.site
GoesOn x (CutOff y how) = Unit {0}

armed_goes : (x : Script) (left : ℕ) (xs : List BootWrite) (y : DiskLeft) → GoesOn x (boots_armed x left xs y)
armed_goes x left [] y = refl
armed_goes x zero (w ∷ ws) y = tt
armed_goes x (suc zero) (w ∷ ws) y = tt
armed_goes x (suc (suc left)) (w ∷ ws) y = armed_goes x left ws (boot_written w y)

pub boot_goes : (x : Script) (y : DiskLeft) → GoesOn x (boots (Some x) y)
boot_goes x y = armed_goes x x.left (boot_writes y) y
