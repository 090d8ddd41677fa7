-- Looks and pulls: what a copy serves is the version that was asked, or it has moved on.
use Rattle.std.proofs.Common.{◌≡◌, ℕ, ◌<◌, Bool, true, false, not, cond, ◌&&◌, ◌||◌, filter, List, [], ◌∷◌, length, Option, Some, None, refl, sym, ◌∙◌, ap, subst, inl, inr}
use Rattle.std.specs.Prelude.{nat_lt}
use Rattle.std.specs.Option.{option_map}
use Rattle.role_steps.proofs.of_plain_facts.Options.{none_some, some_same}
use Rattle.role_steps.proofs.of_plain_facts.Tests.{and_second, true_false}
use Rattle.locus_ids.specs.declared.config.Config.{Config}
use Rattle.locus_ids.specs.declared.ids.CallId.{CallId}
use Rattle.locus_ids.specs.declared.ids.EpochId.{EpochId}
use Rattle.locus_ids.specs.declared.ids.FileId.{FileId}
use Rattle.locus_ids.specs.declared.ids.Stamp.{Stamp}
use Rattle.locus_ids.specs.Sizes.{inode_span}
use Rattle.commit_graph.specs.Versions.{content_of, is_covered, same_stamp}
use Rattle.file_content.specs.Pages.{pages_of, page_of}
use Rattle.trace_book.specs.declared.operation.Served.{Served}
use Rattle.trace_book.specs.declared.operation.Served.TheVariants as served
use Rattle.trace_book.specs.declared.operation.What.{What}
use Rattle.trace_book.specs.declared.operation.What.TheVariants as what
use Rattle.trace_book.specs.declared.record.Record.TheVariants as says
use Rattle.dir_format.specs.declared.looking.LookResult.{LookResult}
use Rattle.dir_format.specs.declared.looking.LookResult.TheVariants as found
use Rattle.dir_format.specs.Contents.{entries_of}
use Rattle.dir_format.specs.Lookups.{lookup}
use Rattle.wire_messages.specs.declared.body.Body.TheVariants as body
use Rattle.wire_messages.specs.declared.body.LookAnswer.TheVariants as looked
use Rattle.role_steps.specs.Own.{Every}
use Rattle.role_steps.specs.Storage.{copy_of, delta_of, look_found, on_look_ss, on_pull, on_want, pages_since, served_content, served_copy, pulled_page, steps_of, wanted_delta}
use Rattle.role_steps.specs.Views.{Frame, Store, Told, Shown, boot_in, packet}
use Rattle.role_steps.specs.declared.copies.FileCopy.{FileCopy}
use Rattle.the_run.specs.Worlds.{Line}
use Rattle.tree_model.specs.Files.{version_of}
use Rattle.tree_model.specs.Given.{only_kept, served_by}
use Rattle.tree_model.specs.Histories.{history, held}
use Rattle.tree_model.specs.Same.{same_served, is_served}
use Rattle.tree_model.specs.State.{TreeState, has_stamp, kept_of, stamps_of}
use Rattle.tree_model.specs.Tree.{tree_of}
use Rattle.tree_laws.specs.Printed.{entries}
use Rattle.tree_laws.specs.Deltas.{WantFact}
use Rattle.tree_laws.specs.Doing.{FrameFact, StoreFine, StoreHeld}
use Rattle.tree_laws.specs.Following.{MayTell, IsFollowed}
use Rattle.tree_laws.specs.Instances.{Stands}
use Rattle.tree_laws.specs.Packets.{LookDoneFact, LookGives, PacketFact, ServeFact}
use Rattle.tree_laws.specs.Past.{LookRecord, Printed, WasLooked}
use Rattle.tree_laws.specs.Stores.{CopiesAreHeld, copy_for}
use Rattle.tree_laws.proofs.Histories.{stands_more}
use Rattle.tree_laws.proofs.Rows.{followed_rows}
use Rattle.tree_laws.proofs.Orders.Knowing.{versions_stand}
use Rattle.tree_laws.proofs.Orders.Standing.{same_stamp_eq}
use Rattle.store_laws.specs.Rests.{StoreRests}
use Rattle.store_laws.proofs.Holding.{held_stands}

-- ---- what was looked at stands ----

-- what is among the kept is among those of which they are kept
within : (p : Stamp → Bool) (xs : List Stamp) (s : Stamp) → has_stamp (filter p xs) s ≡ true → has_stamp xs s ≡ true
within p [] s e = e
within p (x ∷ xs) s e = at (within p xs s) (p x) (same_stamp x s) e
  where
    at : (has_stamp (filter p xs) s ≡ true → has_stamp xs s ≡ true) → (a b : Bool) → has_stamp (cond a (x ∷ filter p xs) (filter p xs)) s ≡ true → (same_stamp x s || has_stamp xs s) ≡ true
    at later true b k = inner (same_stamp x s) k
      where
        inner : (b : Bool) → (b || has_stamp (filter p xs) s) ≡ true → (b || has_stamp xs s) ≡ true
        inner true k = refl
        inner false k = later k
    at later false b k = outer (same_stamp x s)
      where
        outer : (b : Bool) → (b || has_stamp xs s) ≡ true
        outer true = refl
        outer false = later k

one_kept : (s : Stamp) (ks : List Stamp) → same_served (only_kept ks) (served.At s) ≡ true → has_stamp ks s ≡ true
one_kept s [] e = absurd (true_false (sym e))
one_kept s (a ∷ []) e = rw e refl
one_kept s (a ∷ b ∷ others) e = absurd (true_false (sym e))

served_kept : (w : What) (ks : List Stamp) (s : Stamp) → is_served (served_by w ks) (served.At s) ≡ true → has_stamp ks s ≡ true
served_kept (what.Name component) ks s e = one_kept s ks e
served_kept what.List ks s e = one_kept s ks e
served_kept what.Stat ks s e = one_kept s ks e
served_kept (what.Whole asked) ks s e = at (has_stamp ks asked) refl e
  where
    at : (b : Bool) → has_stamp ks asked ≡ b → is_served (cond b (Some (served.At asked)) None) (served.At s) ≡ true → has_stamp ks s ≡ true
    at true k e = subst (λ (t : Stamp). has_stamp ks t ≡ true) (same_stamp_eq asked s e) k
    at false k e = absurd (true_false (sym e))

looked_now : (c : Config) (older : List Line) → IsFollowed c older → (e : EpochId) (d : CallId) (request times : ℕ) (f : FileId) (w : What) (s : Stamp) (z : Told) → MayTell c older z → Printed (LookRecord e d request times f w (served.At s)) older z → Stands c older f s
looked_now c older h e d request times f w s (Shown (says.Look at call number file asked result)) may p = subst (λ (y : FileId). Stands c older y s) p.file_is
    ((versions_stand c (entries older) (followed_rows c older h)).known at file s (within (λ a. not (is_covered (history c (entries older)) file (stamps_of t.known file.ino) a)) (stamps_of t.known file.ino) s
    (served_kept asked (kept_of (history c (entries older)) t file) s (subst (λ (r : Served). is_served (served_by asked (kept_of (history c (entries older)) t file)) r ≡ true) p.served_is (and_second t.started _ may.row.gives)))))
  where
    t : TreeState
    t = tree_of c at file.group (entries older)
looked_now c older h e d request times f w s _ may p = absurd p

pub looked_stands : (c : Config) (trace : List Line) → IsFollowed c trace → (e : EpochId) (d : CallId) (request times : ℕ) (f : FileId) (w : What) (s : Stamp) → WasLooked trace e d request times f w (served.At s) → Stands c trace f s
looked_stands c [] h e d request times f w s k = absurd k
looked_stands c (x ∷ older) h e d request times f w s (inr k) = stands_more c x.number x.told older f s (looked_stands c older h.1 e d request times f w s k)
looked_stands c (x ∷ older) h e d request times f w s (inl k) = stands_more c x.number x.told older f s (looked_now c older h.1 e d request times f w s x.told h.0 k)

-- ---- the copy of a file ----

-- a copy that the store has of a file is the version that the site holds
pub record IsCopy (c : Config) (trace : List Line) (me : ℕ) (f : FileId) (x : FileCopy) : Type 0 where
  pub stamp : Stamp
  pub holds : held c (entries trace) me f ≡ Some stamp
  pub stands : Stands c trace f stamp
  pub same : x ≡ copy_for f (version_of c (entries trace) f stamp)

pub copy_is : (c : Config) (trace : List Line) → IsFollowed c trace → (me : ℕ) (s : Store) → CopiesAreHeld c trace me s → (f : FileId) → f.ino < inode_span → (x : FileCopy) → copy_of s f ≡ Some x → IsCopy c trace me f x
copy_is c trace h me s k f narrow x e = over (held c (entries trace) me f) refl (sym (k.are f narrow) ∙ e)
  where
    over : (o : Option Stamp) → held c (entries trace) me f ≡ o → option_map (copy_for f) (option_map (version_of c (entries trace) f) o) ≡ Some x → IsCopy c trace me f x
    over None holds k = absurd (none_some x k)
    over (Some t) holds k = record { stamp = t; holds = holds; stands = held_stands c (entries trace) (followed_rows c trace h) me f t holds; same = sym (some_same (copy_for f (version_of c (entries trace) f t)) x k) }

-- ---- LookSs ----

found_gives : (c : Config) (trace : List Line) (f : FileId) (component : List ℕ) (s : Stamp) (r : LookResult) → look_found component r ≡ served_content (what.Name component) (content_of (history c (entries trace)) f s) → LookGives c trace f (what.Name component) s (look_found component r)
found_gives c trace f component s (found.Found ino kind) e = e
found_gives c trace f component s found.Absent e = e
found_gives c trace f component s (found.Ambiguous a b) e = e

content_gives : (c : Config) (trace : List Line) (f : FileId) (w : What) (s : Stamp) (content : List ℕ) → content ≡ content_of (history c (entries trace)) f s → LookGives c trace f w s (served_content w content)
content_gives c trace f (what.Name component) s content e = found_gives c trace f component s (lookup (entries_of content) component) (ap (served_content (what.Name component)) e)
content_gives c trace f what.List s content e = ap (served_content what.List) e
content_gives c trace f what.Stat s content e = ap (served_content what.Stat) e
content_gives c trace f (what.Whole asked) s content e = ap (served_content (what.Whole asked)) e

copy_gives : (c : Config) (trace : List Line) (me : ℕ) (f : FileId) (w : What) (s : Stamp) (o : Option FileCopy) → ((x : FileCopy) → o ≡ Some x → IsCopy c trace me f x) → LookGives c trace f w s (served_copy w s o)
copy_gives c trace me f w s None are = tt
copy_gives c trace me f w s (Some x) are = over (are x refl) (same_stamp x.stamp s) refl
  where
    over : IsCopy c trace me f x → (b : Bool) → same_stamp x.stamp s ≡ b → LookGives c trace f w s (elim b [ true ↦ served_content w x.content | false ↦ looked.Moved ])
    over k true e = content_gives c trace f w s x.content (ap (λ (y : FileCopy). y.content) k.same ∙ ap (content_of (history c (entries trace)) f) (sym (ap (λ (y : FileCopy). y.stamp) k.same) ∙ same_stamp_eq x.stamp s e))
    over k false e = tt

call_is : (d : CallId) (site boot n : ℕ) → d.site ≡ site → d.boot ≡ boot → d.n ≡ n → d ≡ record { site = site; boot = boot; n = n }
call_is d site boot n a b e = λ i. record { site = a i; boot = b i; n = e i }

pub look_served : (c : Config) (n : ℕ) (trace : List Line) → IsFollowed c trace → StoreRests c trace → (f : Frame) → FrameFact c trace f → (s : Store) → StoreHeld c f trace s → (us call process request times : ℕ) (file : FileId) (w : What) (serve : Stamp) → ServeFact trace f.epoch us call process request times file w serve →
    StoreFine c n trace f s (on_look_ss f us (record { call = call; process = process; request = request; take = times; file = file; what = w }) serve s)
look_served c n trace h rests f frame s held us call process request times file w serve k = record { told = tt; own = tt; view = held; sent = (done, tt); written = tt }
  where
    stands : Stands c trace file serve
    stands = looked_stands c trace h f.epoch k.call request times file w serve k.looked_so

    boot : k.call.boot ≡ boot_in f.members.boot us
    boot = sym (rests.boots f.epoch k.call f.members k.is_call.inside frame.members_are) ∙ ap (boot_in f.members.boot) k.is_call.site_is

    done : LookDoneFact c trace f.epoch us (boot_in f.members.boot us) call request times (served_copy w serve (copy_of s file))
    done = record {
      call = k.call;
      call_is = call_is k.call us (boot_in f.members.boot us) call k.is_call.site_is boot k.is_call.number_is;
      file = file;
      what = w;
      result = served.At serve;
      looked_so = k.looked_so;
      answer = (stands, copy_gives c trace f.me file w serve (copy_of s file) (λ x e. copy_is c trace h f.me s held.copies file (rests.narrow file serve stands) x e));
    }

-- ---- Pull ----

pages_sent : (c : Config) (trace : List Line) (f : Frame) (from : ℕ) (file : FileId) (stamp : Stamp) (page : ℕ) (o : Option FileCopy) → ((x : FileCopy) → o ≡ Some x → IsCopy c trace f.me file x) → Every (PacketFact c trace) (pulled_page f from file stamp page o)
pages_sent c trace f from file stamp page None are = tt
pages_sent c trace f from file stamp page (Some x) are = over (are x refl) (same_stamp x.stamp stamp) (nat_lt page (pages_of (length x.content))) refl
  where
    over : IsCopy c trace f.me file x → (a b : Bool) → same_stamp x.stamp stamp ≡ a → Every (PacketFact c trace) (cond (a && b) (packet f from (body.Page file stamp page (page_of x.content page)) ∷ []) [])
    over k true true e = (
      record {
        version = version_of c (entries trace) file k.stamp;
        is_version = record { stands = k.stands; same = refl };
        stamp_is = sym (ap (λ (y : FileCopy). y.stamp) k.same) ∙ same_stamp_eq x.stamp stamp e;
        bytes_are = ap (λ (y : FileCopy). page_of y.content page) k.same;
      },
      tt,
    )
    over k true false e = tt
    over k false b e = tt

pub page_sent : (c : Config) (n : ℕ) (trace : List Line) → IsFollowed c trace → StoreRests c trace → (f : Frame) (s : Store) → StoreHeld c f trace s → (from : ℕ) (file : FileId) (stamp : Stamp) (page : ℕ) → Stands c trace file stamp → StoreFine c n trace f s (on_pull f from file stamp page s)
page_sent c n trace h rests f s held from file stamp page stands = record { told = tt; own = tt; view = held; sent = pages_sent c trace f from file stamp page (copy_of s file) (λ x e. copy_is c trace h f.me s held.copies file (rests.narrow file stamp stands) x e); written = tt }

-- ---- Want ----

-- a want is answered by the pages of the version that it wants
pub want_sent : (c : Config) (n : ℕ) (trace : List Line) (f : Frame) (s : Store) → StoreHeld c f trace s → (from : ℕ) (file : FileId) (wanted own : Stamp) → WantFact c trace f.epoch from file wanted own → StoreFine c n trace f s (on_want f from file wanted own s)
want_sent c n trace f s held from file wanted own k = record { told = tt; own = tt; view = held; sent = over (copy_of s file); written = tt }
  where
    over : (o : Option FileCopy) → Every (PacketFact c trace) (wanted_delta f from file wanted own s o)
    over None = tt
    over (Some x) = at (same_stamp x.stamp wanted)
      where
        at : (b : Bool) → Every (PacketFact c trace) (cond b (packet f from (body.Delta file wanted (delta_of (pages_of (length x.content)) (pages_since own wanted (steps_of file s.steps)))) ∷ []) [])
        at true = (record { wanted_stands = k.wanted_stands; joined = k.joined }, tt)
        at false = tt
