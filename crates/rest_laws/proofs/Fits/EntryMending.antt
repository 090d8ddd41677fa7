-- What mends have brought: contents of versions of directories, whose entries name files that stand.
use Rattle.std.proofs.Common.{◌≡◌, ℕ, ◌==◌, Bool, true, false, cond, List, [], ◌∷◌, map, Option, None, Some, refl, sym, ◌∙◌, ap, subst}
use Rattle.std.specs.Option.{option_map}
use Rattle.role_steps.proofs.of_plain_facts.Options.{none_some, some_same}
use Rattle.locus_ids.specs.declared.config.Config.{Config}
use Rattle.locus_ids.specs.declared.ids.CallId.{CallId}
use Rattle.locus_ids.specs.declared.ids.FileId.{FileId}
use Rattle.locus_ids.specs.declared.ids.Kind.TheVariants as kind
use Rattle.locus_ids.specs.declared.ids.Stamp.{Stamp}
use Rattle.commit_graph.specs.Versions.{content_of}
use Rattle.trace_book.specs.Same.{same_call}
use Rattle.trace_book.specs.declared.call.Call.{Call}
use Rattle.trace_book.specs.declared.call.Call.TheVariants as call
use Rattle.trace_book.specs.declared.record.Record.{Record}
use Rattle.trace_book.specs.declared.record.Record.TheVariants as says
use Rattle.role_steps.specs.Mends.{brought_by, is_mend_in, mending}
use Rattle.role_steps.specs.Own.{Every}
use Rattle.role_steps.specs.Tables.{first_that}
use Rattle.role_steps.specs.Views.{Frame, Shown, SiteView, Told}
use Rattle.role_steps.specs.declared.users.WaitingCall.{WaitingCall}
use Rattle.the_run.specs.Worlds.{Line}
use Rattle.the_run.proofs.InsideSync.{Found, first_found}
use Rattle.tree_model.specs.declared.accepted.Waiting.{Waiting}
use Rattle.tree_model.specs.Calls.{accepted_as, call_named}
use Rattle.tree_model.specs.Files.{first_call, kind_made, kind_of_file, words_named}
use Rattle.tree_model.specs.Folds.{Trace}
use Rattle.tree_model.specs.Histories.{history}
use Rattle.tree_laws.specs.Following.{IsFollowed, MayTell}
use Rattle.tree_laws.specs.Printed.{entries, onto_entries}
use Rattle.tree_laws.specs.Users.{BringsFor, WaitingFact, own_call, taken_whole}
use Rattle.tree_laws.specs.Calls.{log}
use Rattle.tree_laws.proofs.Scripts.{named_stays}
use Rattle.tree_laws.specs.Orders.Joining.{PacksAreOfSites}
use Rattle.store_laws.specs.OneTree.Places.{InsideFact}
use Rattle.rest_laws.specs.Fits.EntryEntries.{EntriesName}
use Rattle.rest_laws.proofs.Fits.EntryFacts.{With}
use Rattle.rest_laws.proofs.Fits.EntryMade.{first_more}
use Rattle.rest_laws.proofs.Fits.EntryOpen.{versions_name}

file_dir : kind.File ≡ kind.Dir → ⊥
file_dir e = cc

-- ---- a directory stays one ----

dir_record : (c : Config) (n : ℕ) (r : Record) (older : List Line) (f : FileId) → IsFollowed c older → MayTell c older (Shown r) → kind_of_file c (entries older) f ≡ kind.Dir → kind_of_file c (entries (With n (Shown r) older)) f ≡ kind.Dir
dir_record c n r older f h may dir = over (f.ino == 1) dir
  where
    new : Trace
    new = entries (With n (Shown r) older)

    named : (d : CallId) (o : Option Waiting) → call_named (entries older) d ≡ o → kind_made (option_map (λ (w : Waiting). w.words) o) ≡ kind.Dir → kind_made (words_named new (Some d)) ≡ kind.Dir
    named d None q k = absurd (file_dir k)
    named d (Some w) q k = ap (λ (o : Option Waiting). kind_made (option_map (λ (v : Waiting). v.words) o)) (named_stays c n (Shown r) older d h may (w, q) ∙ q) ∙ k

    called : (o : Option CallId) → first_call c (entries older) f ≡ o → kind_made (words_named (entries older) o) ≡ kind.Dir → kind_made (words_named new (first_call c new f)) ≡ kind.Dir
    called None q k = absurd (file_dir k)
    called (Some d) q k = ap (λ (o : Option CallId). kind_made (words_named new o)) (first_more c n r (entries older) f d q) ∙ named d (call_named (entries older) d) refl k

    over : (b : Bool) → cond b kind.Dir (kind_made (words_named (entries older) (first_call c (entries older) f))) ≡ kind.Dir → cond b kind.Dir (kind_made (words_named new (first_call c new f))) ≡ kind.Dir
    over true k = refl
    over false k = called (first_call c (entries older) f) refl k

dir_stays : (c : Config) (n : ℕ) (x : Told) (older : List Line) (f : FileId) → IsFollowed c older → MayTell c older x → kind_of_file c (entries older) f ≡ kind.Dir → kind_of_file c (entries (With n x older)) f ≡ kind.Dir
dir_stays c n (Shown r) older f h may dir = dir_record c n r older f h may dir
dir_stays c n _ older f h may dir = dir

-- ---- mends are of directories ----

abbrev MendsDir : Config → List Line → Call → Type 0
MendsDir c t (call.Mend f) = kind_of_file c (entries t) f ≡ kind.Dir
MendsDir c t _ = Unit {0}

mends_stay : (c : Config) (n : ℕ) (x : Told) (older : List Line) → IsFollowed c older → MayTell c older x → (words : Call) → MendsDir c older words → MendsDir c (With n x older) words
mends_stay c n x older h may (call.Mend f) k = dir_stays c n x older f h may k
mends_stay c n x older h may _ k = tt

-- a mend that is accepted is of a directory
accepted_dir : (c : Config) (older : List Line) (s process : ℕ) (d : CallId) (words : Call) → MayTell c older (Shown (says.Accept s process d words)) → MendsDir c older words
accepted_dir c older s process d (call.Mend f) may = may.row.directory
accepted_dir c older s process d _ may = tt

mends_dirs : (c : Config) (t : List Line) → IsFollowed c t → (d : CallId) (w : Waiting) → call_named (entries t) d ≡ Some w → MendsDir c t w.words
mends_dirs c [] h d w named = absurd (none_some w named)
mends_dirs c (x ∷ older) h d w named = mends_stay c x.number x.told older h.1 h.0 w.words (over x.told h.0 named (λ q. mends_dirs c older h.1 d w q))
  where
    over : (y : Told) → MayTell c older y → call_named (onto_entries x.number y (entries older)) d ≡ Some w → (call_named (entries older) d ≡ Some w → MendsDir c older w.words) → MendsDir c older w.words
    over (Shown (says.Accept s process new words)) may q later = at (same_call new d) q
      where
        at : (b : Bool) → cond b (Some (accepted_as (entries older) s process new words)) (call_named (entries older) d) ≡ Some w → MendsDir c older w.words
        at true k = subst (λ (v : Waiting). MendsDir c older v.words) (some_same (accepted_as (entries older) s process new words) w k) (accepted_dir c older s process new words may)
        at false k = later k
    over (Shown r) may q later = later q
    over _ may q later = later q

-- ---- what a mend has brought ----

-- contents of directories of one group
pub record AreNamed (c : Config) (t : List Line) (contents : List (List ℕ)) : Type 0 where
  pub group : ℕ
  pub named : Every (EntriesName c t group) contents

none_named : (c : Config) (t : List Line) → AreNamed c t []
none_named c t = record { group = 0; named = tt }

module _ (c : Config) (packs : PacksAreOfSites c) (t : List Line) (h : IsFollowed c t) where
  versions_named : (f : FileId) → kind_of_file c (entries t) f ≡ kind.Dir → (stamps : List Stamp) → Every (EntriesName c t f.group) (map (content_of (history c (entries t)) f) stamps)
  versions_named f dir [] = tt
  versions_named f dir (s ∷ ss) = (versions_name c t packs h f s dir, versions_named f dir ss)

  brought_named : (d : CallId) (words : Call) (contents : List (List ℕ)) → MendsDir c t words → BringsFor c t d words contents → AreNamed c t contents
  brought_named d (call.Mend f) contents dir b = record { group = f.group; named = subst (Every (EntriesName c t f.group)) (sym b.contents_are) (versions_named f dir (taken_whole (log t d))) }
  brought_named d _ contents dir b = subst (AreNamed c t) (sym b) (none_named c t)

  waiting_named : (f : Frame) (w : WaitingCall) → WaitingFact c t f w → AreNamed c t w.brought
  waiting_named f w k = brought_named (own_call f.me f.boot w.call) w.words w.brought (subst (λ (v : Waiting). MendsDir c t v.words) k.caller_is (mends_dirs c t h (own_call f.me f.boot w.call) k.caller k.named)) k.brings

  -- what a mend of a group works on at a site in its epoch
  pub mending_named : (f : Frame) (v : SiteView) → InsideFact c f t v → (group : ℕ) → AreNamed c t (mending v group).contents
  mending_named f v inside group = over (first_that (is_mend_in group) v.users.waiting) (first_found (WaitingFact c t f) (is_mend_in group) v.users.waiting inside.users.inside.inside.calls)
    where
      over : (o : Option WaitingCall) → Found (WaitingFact c t f) o → AreNamed c t (brought_by o)
      over None k = none_named c t
      over (Some w) k = waiting_named f w k
