-- A version that is written, as the lawful trace counts it and as the disk has it: whole, cut off on the disk, and cut off before.
use Rattle.std.proofs.Common.{◌≡◌, ◌≤◌, ◌<◌, ℕ, ◌+◌, ◌-◌, nat_lt, Bool, true, false, cond, ◌&&◌, [], ◌∷◌, length, Option, Some, None, refl, sym, ◌∙◌, ap, subst, arith}
use Rattle.std.proofs.lemmas.Bool.{le-leb, le-ltb, lt-ltb}
use Rattle.role_steps.proofs.of_plain_facts.Numbers.{less, not_less}
use Rattle.locus_ids.specs.declared.ids.FileId.{FileId}
use Rattle.disk_calls.specs.Versions.{blocks, are_both_open, are_left_open}
use Rattle.role_steps.specs.Views.{Store, SiteView, DiskWrite}
use Rattle.the_run.specs.Disks.{Armed as Script, Cut, has_older, writing_of, write_calls, old_gate, is_on_disk, cut_disk}
use Rattle.the_run.specs.Worlds.{Place, Running, Stopped}
use Rattle.lawful_trace.specs.Disks.{Armed, Writing, calls_of, cut_of, calls_of_writing, written_with, stopped_with, has_left}
use Rattle.headline_laws.specs.WholeRuns.Wrote.{Disk, slots_after, slots_stopped, disk_written, disk_stopped}
use Rattle.headline_laws.specs.WholeRuns.CutCounts.{CountsAs, CountsAt}
use Rattle.headline_laws.proofs.WholeRuns.CutGates.{cut_same}

-- ---- how many calls ----

pub has_calls : (o : Option Armed) (a : Script) → CountsAs o (Some a) → has_left o ≡ true
has_calls None a h = absurd h
has_calls (Some x) a h = le-leb x.used (calls_of x.arming) (below x.used a.left (calls_of x.arming) h.1)
  where
    below : (used left calls : ℕ) → used + left ≡ calls → used ≤ calls
    below used left calls e = omega (arith, e)

-- so many pass before the cut
calls_left : (used left calls : ℕ) → used + left ≡ calls → calls - used ≡ left
calls_left used left calls e = omega (arith, e)

spent : (used left need calls : ℕ) → need ≤ left → used + left ≡ calls → (used + need) + (left - need) ≡ calls
spent used left need calls low e = omega (arith, low, e)

-- ---- slots ----

-- where no call was cut off, the old gate is shut
slots_whole : (w : Writing) (how : Cut) (left : ℕ) → calls_of_writing w ≤ left → are_left_open w how left ≡ false
slots_whole w how left low = ap (λ (b : Bool). b && are_both_open w how left) (le-ltb left (calls_of_writing w) low)

slots_cut : (w : Writing) (how : Cut) (left : ℕ) → left < calls_of_writing w → are_both_open w how left ≡ are_left_open w how left
slots_cut w how left low = sym (ap (λ (b : Bool). b && are_both_open w how left) (lt-ltb left (calls_of_writing w) low))

one_file : (file : FileId) (b c : Bool) → b ≡ c → length (cond b (file ∷ []) []) ≡ cond c 1 0
one_file file b c e = ap (λ (x : Bool). length (cond x (file ∷ []) [])) e ∙ of_test c
  where
    of_test : (b : Bool) → length (cond b (file ∷ []) []) ≡ cond b 1 0
    of_test true = refl
    of_test false = refl

-- ---- a version ----

-- a version on a disk that is armed so
abbrev written_as : Writing → Disk → Option Armed → Disk
written_as y D o = record { rest = written_with y D.rest o; slots = slots_after y D.slots o }

free_with : (y : Writing) (D : Disk) (o : Option Armed) (p : Option Place) → CountsAs o None → CountsAt D None p → CountsAt (written_as y D o) None p
free_with y D None p h k = record { calls = k.calls; gates = k.gates }
free_with y D (Some a) p h k = absurd h

pub free_write : (y : Writing) (D : Disk) (p : Option Place) → CountsAt D None p → CountsAt (disk_written y D) None p
free_write y D p h = free_with y D D.rest.armed p h.calls h

whole_with : (st : Store) (d : DiskWrite) (D : Disk) (o : Option Armed) (a : Script) (u : SiteView) → write_calls st d ≤ a.left → CountsAs o (Some a) → D.rest.halves ≡ false →
    CountsAt (written_as (writing_of st d) D o) (Some (record a { left = a.left - write_calls st d })) (Some (Running u))
whole_with st d D None a u low h g = absurd h
whole_with st d D (Some x) a u low h g = record {
  calls = (h.0, spent x.used a.left (write_calls st d) (calls_of x.arming) low h.1);
  gates = (g, ap (are_left_open (writing_of st d) (cut_of x.arming)) (calls_left x.used a.left (calls_of x.arming) h.1) ∙ slots_whole (writing_of st d) (cut_of x.arming) a.left low);
}

pub whole_write : (st : Store) (d : DiskWrite) (D : Disk) (a : Script) (v u : SiteView) → nat_lt a.left (write_calls st d) ≡ false → CountsAt D (Some a) (Some (Running v)) →
    CountsAt (disk_written (writing_of st d) D) (Some (record a { left = a.left - write_calls st d })) (Some (Running u))
whole_write st d D a v u enough h = whole_with st d D D.rest.armed a u (not_less a.left (write_calls st d) enough) h.calls h.gates.0

cut_with : (st : Store) (d : DiskWrite) (D : Disk) (o : Option Armed) (a : Script) (boot : ℕ) → a.left < write_calls st d → CountsAs o (Some a) → D.rest.halves ≡ false →
    CountsAt (disk_stopped true (written_as (writing_of st d) D o)) None (Some (Stopped (cut_disk boot st d a.how a.left)))
cut_with st d D None a boot low h g = absurd h
cut_with st d D (Some x) a boot low h g = record {
  calls = tt;
  gates = (
    g,
    one_file d.copy.file (are_both_open (writing_of st d) a.how a.left) (are_left_open (writing_of st d) (cut_of x.arming) (calls_of x.arming - x.used))
        (slots_cut (writing_of st d) a.how a.left low
        ∙ (sym (ap (λ (how : Cut). are_left_open (writing_of st d) how a.left) (cut_same x.arming a.how h.0))
        ∙ sym (ap (are_left_open (writing_of st d) (cut_of x.arming)) (calls_left x.used a.left (calls_of x.arming) h.1)))),
  );
}

-- it is cut off, and on the disk: its record is told, and then the stop
pub cut_write : (st : Store) (d : DiskWrite) (D : Disk) (a : Script) (boot : ℕ) (v : SiteView) → nat_lt a.left (write_calls st d) ≡ true → CountsAt D (Some a) (Some (Running v)) →
    CountsAt (disk_stopped true (disk_written (writing_of st d) D)) None (Some (Stopped (cut_disk boot st d a.how a.left)))
cut_write st d D a boot v lacks h = cut_with st d D D.rest.armed a boot (less a.left (write_calls st d) lacks) h.calls h.gates.0

lost_with : (D : Disk) (o : Option Armed) (a : Script) (n : ℕ) → CountsAs o (Some a) → D.rest.halves ≡ false → D.slots ≡ false → n ≡ 0 → ((stopped_with true D.rest o).armed ≡ None) × ((stopped_with true D.rest o).halves ≡ false) × (n ≡ cond (slots_stopped true D.rest D.slots o) 1 0)
lost_with D None a n h g k e = absurd h
lost_with D (Some x) a n h g k e = (refl, g, e ∙ sym (ap (λ (b : Bool). cond b 1 0) k))

-- it is cut off before it is on the disk
pub lost_write : (st : Store) (d : DiskWrite) (D : Disk) (a : Script) (boot : ℕ) (v : SiteView) → is_on_disk st d a.how a.left ≡ false → CountsAt D (Some a) (Some (Running v)) →
    CountsAt (disk_stopped true D) None (Some (Stopped (cut_disk boot st d a.how a.left)))
lost_write st d D a boot v lost h = record { calls = subst (λ (o : Option Armed). CountsAs o None) (sym all.0) tt; gates = (all.1, all.2) }
  where
    none : length (cond (are_both_open (writing_of st d) a.how a.left) (d.copy.file ∷ []) []) ≡ 0
    none = one_file d.copy.file (are_both_open (writing_of st d) a.how a.left) false (ap (λ (b : Bool). has_older st d && (b && old_gate (blocks (writing_of st d)) a.how a.left)) lost ∙ and_false (has_older st d))
      where
        and_false : (b : Bool) → (b && false) ≡ false
        and_false true = refl
        and_false false = refl

    all : ((disk_stopped true D).rest.armed ≡ None) × ((disk_stopped true D).rest.halves ≡ false) × (length (cut_disk boot st d a.how a.left).both_open ≡ cond (disk_stopped true D).slots 1 0)
    all = lost_with D D.rest.armed a (length (cut_disk boot st d a.how a.left).both_open) h.calls h.gates.0 h.gates.1 none
