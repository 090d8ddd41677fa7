-- How outcomes that write at most one version are put together.
use Rattle.std.proofs.Common.{◌≡◌, ℕ, List, ◌∷◌, ◌++◌, Option, Some, None, refl, sym, ◌∙◌, ap, subst, append_assoc, inl, inr}
use Rattle.trace_book.specs.declared.record.Record.{Record}
use Rattle.trace_book.specs.declared.record.Record.TheVariants as says
use Rattle.run_laws.specs.of_role_steps.Own.{Every}
use Rattle.run_laws.specs.of_role_steps.Views.{Told, Shown, Promises, DiskWrite, first_written}
use Rattle.run_laws.specs.of_role_steps.declared.copies.FileCopy.{FileCopy}
use Rattle.run_laws.proofs.of_role_steps.Sending.{every_append}
use Rattle.run_laws.proofs.of_the_run.Boots.{every_weaker}
use Rattle.run_laws.specs.Words.{TalkRecord, Talk}
use Rattle.site_laws.specs.Vectors.Held.{StillRecord, Still, Untouched, Writes, OnDisk}

still_record : (r : Record) → TalkRecord r → StillRecord r
still_record (says.Commit file s stamp parents content) h = h
still_record (says.Adopt file s stamp) h = h
still_record _ h = tt

still_told : (x : Told) → Talk x → Still x
still_told (Shown r) h = still_record r h
still_told (Promises s id reach) h = tt
still_told _ h = tt

pub talk_still : (xs : List Told) → Every Talk xs → Every Still xs
talk_still xs h = every_weaker Talk Still xs still_told h

-- what talks leaves the disk as it is
pub talks_untouched : (old new : List FileCopy) (told : List Told) (written : Option DiskWrite) → new ≡ old → Every Talk told × (written ≡ None) → Untouched old new told written
talks_untouched old new told written e h = record { copies = e; still = talk_still told h.0; none = h.1 }

none_then : (a b : Option DiskWrite) → a ≡ None → b ≡ None → first_written a b ≡ None
none_then a b e f = subst (λ (x : Option DiskWrite). first_written x b ≡ None) (sym e) f

some_then : (a b : Option DiskWrite) (d : DiskWrite) → a ≡ Some d → first_written a b ≡ Some d
some_then a b d e = subst (λ (x : Option DiskWrite). first_written x b ≡ Some d) (sym e) refl

pub untouched_then : (old mid new : List FileCopy) (a b : List Told) (v w : Option DiskWrite) → Untouched old mid a v → Untouched mid new b w → Untouched old new (a ++ b) (first_written v w)
untouched_then old mid new a b v w h g = record { copies = g.copies ∙ h.copies; still = every_append Still a b h.still g.still; none = none_then v w h.none g.none }

-- maybe a version, then nothing
pub disk_then : (s : ℕ) (old mid new : List FileCopy) (a b : List Told) (v w : Option DiskWrite) → OnDisk s old mid a v → Untouched mid new b w → OnDisk s old new (a ++ b) (first_written v w)
disk_then s old mid new a b v w (inl h) g = inl (untouched_then old mid new a b v w h g)
disk_then s old mid new a b v w (inr h) g = inr (h.0, writes h.0 h.1)
  where
    writes : (d : DiskWrite) → Writes s old mid a v d → Writes s old new (a ++ b) (first_written v w) d
    writes d k = record {
      is_written = some_then v w d k.is_written;
      copies = g.copies ∙ k.copies;
      says_so = k.says_so;
      above = k.above;
      before = k.before;
      after = k.after ++ b;
      told_is = ap (λ (xs : List Told). xs ++ b) k.told_is ∙ append_assoc k.before (Shown d.says ∷ k.after) b;
      still_before = k.still_before;
      still_after = every_append Still k.after b k.still_after g.still;
    }
