-- By the ranges of what was told: who is in an epoch is one of sites 1 to 16, who calls too, and files have numbers of 16 bits.
use Rattle.std.proofs.Common.{◌≡◌, ◌≤◌, ◌<◌, ℕ, ◌==◌, ◌&&◌, ◌||◌, ◌⊎◌, inl, inr, ◌+◌, Bool, true, false, cond, List, [], ◌∷◌, Option, Some, None, refl, sym, ap, subst, arith}
use Rattle.std.proofs.lemmas.Bool.Decides.{nat_tests}
use Rattle.role_steps.proofs.of_plain_facts.Numbers.{equal}
use Rattle.role_steps.proofs.of_plain_facts.Options.{none_some, some_same}
use Rattle.role_steps.proofs.of_plain_facts.Tests.{and_first, or_either, true_false}
use Rattle.locus_ids.specs.declared.config.Config.{Config}
use Rattle.locus_ids.specs.declared.ids.CallId.{CallId}
use Rattle.locus_ids.specs.declared.ids.EpochId.{EpochId}
use Rattle.locus_ids.specs.declared.ids.FileId.{FileId}
use Rattle.locus_ids.specs.declared.ids.Stamp.{Stamp}
use Rattle.locus_ids.specs.declared.sites.Sites.{Sites}
use Rattle.locus_ids.specs.Sizes.{inode_span}
use Rattle.commit_graph.specs.Versions.{is_in, is_version, same_file, same_stamp}
use Rattle.trace_book.specs.Same.{same_call}
use Rattle.trace_book.specs.declared.call.Call.{Call}
use Rattle.trace_book.specs.declared.call.Call.TheVariants as call
use Rattle.trace_book.specs.declared.record.Record.{Record}
use Rattle.trace_book.specs.declared.record.Record.TheVariants as says
use Rattle.role_steps.specs.Views.{Told, Shown}
use Rattle.the_run.specs.Worlds.{Line}
use Rattle.tree_model.specs.declared.accepted.Waiting.{Waiting}
use Rattle.tree_model.specs.Calls.{accepted_as, call_after, call_named}
use Rattle.tree_model.specs.Epochs.{epoch_after, epoch_of}
use Rattle.tree_model.specs.Histories.{format_version, format_versions, history, history_after}
use Rattle.lawful_trace.specs.CallRows.{CallRow, MayAccept}
use Rattle.store_laws.specs.of_site_laws.Vectors.HistoryCommits.{IsSite}
use Rattle.tree_laws.specs.Following.{IsFollowed, MayTell}
use Rattle.tree_laws.specs.Printed.{entries, onto_entries}
use Rattle.tree_laws.proofs.Names.{same_call_eq}
use Rattle.store_laws.proofs.of_tree_laws.Orders.Standing.{same_file_eq}
use Rattle.store_laws.specs.OneTree.Rest.{AskedCall, EachRest, IsNumberedLow, RangeCall, RangeTold}
use Rattle.rest_laws.specs.StoreStepKnown.{IsKnownCall}

-- ---- who is in an epoch ----

pub inside_site : (c : Config) (t : List Line) → EachRest c t → (s : ℕ) (e : EpochId) → epoch_of (entries t) s ≡ Some e → IsSite s
inside_site c [] h s e k = absurd (none_some e k)
inside_site c (x ∷ older) h s e k = over x.told h.0.range k (inside_site c older h.1 s e)
  where
    Before : Type 0
    Before = epoch_of (entries older) s ≡ Some e → IsSite s

    joins : (t : ℕ) (at : EpochId) (b : Bool) → (t == s) ≡ b → IsSite t → cond b (Some at) (epoch_of (entries older) s) ≡ Some e → Before → IsSite s
    joins t at true q site k later = subst IsSite (equal t s q) site
    joins t at false q site k later = later k

    gone : (b : Bool) → cond b None (epoch_of (entries older) s) ≡ Some e → Before → IsSite s
    gone true k later = absurd (none_some e k)
    gone false k later = later k

    printed : (r : Record) → RangeTold c (Shown r) → epoch_after r s (epoch_of (entries older) s) ≡ Some e → Before → IsSite s
    printed (says.Join t at members) site k later = joins t at (t == s) refl site k later
    printed (says.Leave t at) site k later = gone (t == s) k later
    printed (says.Stopped t cause) site k later = gone (t == s) k later
    printed (says.Up t boot) site k later = gone (t == s) k later
    printed _ site k later = later k

    over : (y : Told) → RangeTold c y → epoch_of (onto_entries x.number y (entries older)) s ≡ Some e → Before → IsSite s
    over (Shown r) range k later = printed r range k later
    over _ range k later = later k

-- ---- who calls ----

plain_known : (c : Config) (older : List Line) (s process : ℕ) (id : CallId) (words : Call) → AskedCall c s process words → RangeCall c s process words → IsNumberedLow id words → MayAccept c (entries older) s process id → IsKnownCall c id (accepted_as (entries older) s process id words)
plain_known c older s process id words asked range name row = record {
  site = subst IsSite (sym its) asked.site;
  small = asked.process_high;
  only = λ e. absurd (never process e asked.process_low);
  range = subst (λ (z : ℕ). RangeCall c z process words) (sym its) range;
  name = name;
}
  where
    its : id.site ≡ s
    its = ap (λ (d : CallId). d.site) row.numbered

    never : (p : ℕ) → p ≡ 0 → 1 ≤ p → ⊥
    never p e low = omega (arith, e, low)

byte_zero : (p : ℕ) → p ≡ 0 → p < 256
byte_zero p e = omega (arith, e)

accept_known : (c : Config) (older : List Line) (s process : ℕ) (id : CallId) (words : Call) → EachRest c older → RangeCall c s process words → IsNumberedLow id words → CallRow c (entries older) s process id words → IsKnownCall c id (accepted_as (entries older) s process id words)
accept_known c older s process id (call.Mend file) h range name row = record {
  site = subst IsSite (sym (ap (λ (d : CallId). d.site) row.numbered)) (inside_site c older h s row.epoch row.inside);
  small = byte_zero process row.system;
  only = λ e. tt;
  range = tt;
  name = tt;
}
accept_known c older s process id words h range name row = plain_known c older s process id _ range range name row

pub known_call : (c : Config) (t : List Line) → IsFollowed c t → EachRest c t → (d : CallId) (w : Waiting) → call_named (entries t) d ≡ Some w → IsKnownCall c d w
known_call c [] h g d w k = absurd (none_some w k)
known_call c (x ∷ older) h g d w k = over x.told h.0 g.0.range k (known_call c older h.1 g.1 d w)
  where
    Before : Type 0
    Before = call_named (entries older) d ≡ Some w → IsKnownCall c d w

    accepts : (id : CallId) (y : Waiting) (b : Bool) → same_call id d ≡ b → IsKnownCall c id y → cond b (Some y) (call_named (entries older) d) ≡ Some w → Before → IsKnownCall c d w
    accepts id y true e known k later = subst (IsKnownCall c d) (some_same y w k) (subst (λ (z : CallId). IsKnownCall c z y) (same_call_eq id d e) known)
    accepts id y false e known k later = later k

    printed : (r : Record) → MayTell c older (Shown r) → RangeTold c (Shown r) → call_after r (entries older) d (call_named (entries older) d) ≡ Some w → Before → IsKnownCall c d w
    printed (says.Accept s process id words) may range k later = accepts id (accepted_as (entries older) s process id words) (same_call id d) refl (accept_known c older s process id words g.1 range.0 range.1 may.row) k later
    printed _ may range k later = later k

    over : (y : Told) → MayTell c older y → RangeTold c y → call_named (onto_entries x.number y (entries older)) d ≡ Some w → Before → IsKnownCall c d w
    over (Shown r) may range k later = printed r may range k later
    over _ may range k later = later k

-- ---- files ----

root_narrow : (g : FileId) → g.ino ≡ 1 → g.ino < inode_span
root_narrow g e = omega (arith, e)

format_narrow : (k : ℕ) (packs : List Sites) (f : FileId) (s : Stamp) → is_in (format_versions k packs) f s ≡ true → f.ino < inode_span
format_narrow k [] f s h = absurd (true_false (sym h))
format_narrow k (p ∷ ps) f s h = at (p.0 == 0) h (format_narrow (k + 1) ps f s)
  where
    over : (is_version f s (format_version k) ≡ true) ⊎ (is_in (format_versions (k + 1) ps) f s ≡ true) → (is_in (format_versions (k + 1) ps) f s ≡ true → f.ino < inode_span) → f.ino < inode_span
    over (inl e) later = root_narrow f (ap (λ (y : FileId). y.ino) (sym (same_file_eq (format_version k).file f (and_first (same_file (format_version k).file f) _ e))))
    over (inr e) later = later e

    at : (b : Bool) → is_in (cond b (format_versions (k + 1) ps) (format_version k ∷ format_versions (k + 1) ps)) f s ≡ true → (is_in (format_versions (k + 1) ps) f s ≡ true → f.ino < inode_span) → f.ino < inode_span
    at true h later = later h
    at false h later = over (or_either (is_version f s (format_version k)) (is_in (format_versions (k + 1) ps) f s) h) later

-- what stands has a number of 16 bits
pub stands_narrow : (c : Config) (t : List Line) → EachRest c t → (f : FileId) (s : Stamp) → is_in (history c (entries t)) f s ≡ true → f.ino < inode_span
stands_narrow c [] h f s k = format_narrow 0 c.packs f s k
stands_narrow c (x ∷ older) h f s k = over x.told h.0.range k (stands_narrow c older h.1 f s)
  where
    Before : Type 0
    Before = is_in (history c (entries older)) f s ≡ true → f.ino < inode_span

    commits : (g : FileId) (stamp : Stamp) → g.ino < inode_span → (same_file g f && same_stamp stamp s ≡ true) ⊎ (is_in (history c (entries older)) f s ≡ true) → Before → f.ino < inode_span
    commits g stamp low (inl e) later = subst (λ (y : FileId). y.ino < inode_span) (same_file_eq g f (and_first (same_file g f) _ e)) low
    commits g stamp low (inr e) later = later e

    printed : (r : Record) → RangeTold c (Shown r) → is_in (history_after r (history c (entries older))) f s ≡ true → Before → f.ino < inode_span
    printed (says.Commit g z stamp parents content) range k later = commits g stamp range.0 (or_either (same_file g f && same_stamp stamp s) _ k) later
    printed _ range k later = later k

    over : (y : Told) → RangeTold c y → is_in (history c (onto_entries x.number y (entries older))) f s ≡ true → Before → f.ino < inode_span
    over (Shown r) range k later = printed r range k later
    over _ range k later = later k
