-- Who wants a version over an own one does so still when a line is told, and when it begins to pull another version, learns which pages to
-- pull, or gets one.
use Rattle.std.proofs.Common.{◌≡◌, ℕ, ◌+◌, ◌*◌, ◌<◌, ◌==◌, Bool, true, false, not, ◌||◌, ◌&&◌, cond, List, [], ◌∷◌, ◌++◌, Option, Some, None, refl, sym, ◌∙◌, ap, subst, arith, ◌⊎◌, inl, inr}
use Rattle.std.specs.Option.{option_map}
use Rattle.std.proofs.lemmas.Bool.Decides.{nat_tests}
use Rattle.role_steps.proofs.of_plain_facts.Numbers.{apart_test, equal, equal_self}
use Rattle.role_steps.proofs.of_plain_facts.Options.{none_some, some_same}
use Rattle.role_steps.proofs.of_plain_facts.Tests.{and_first, and_second, true_false}
use Rattle.locus_ids.specs.declared.config.Config.{Config}
use Rattle.locus_ids.specs.declared.ids.EpochId.{EpochId}
use Rattle.locus_ids.specs.declared.ids.FileId.{FileId}
use Rattle.locus_ids.specs.declared.ids.Stamp.{Stamp}
use Rattle.locus_ids.specs.Sizes.{inode_span}
use Rattle.commit_graph.specs.Vectors.{vector_of}
use Rattle.commit_graph.specs.Versions.{same_stamp}
use Rattle.wire_messages.specs.declared.body.Body.TheVariants as body
use Rattle.role_steps.specs.Own.{Every}
use Rattle.role_steps.specs.Pulling.{begins_pull, goes_on, is_awaited, is_delta, is_over, on_delta, on_delta_of, on_notify, on_page, on_page_of, pages_in, pull_key, pull_of, pull_over, replaces_pull}
use Rattle.role_steps.specs.Storage.{copy_of}
use Rattle.role_steps.specs.Tables.{row, with_row}
use Rattle.role_steps.specs.Versions.{is_below}
use Rattle.role_steps.specs.Views.{Frame, Outcome, Store, Told, file_key, packet, quiet, sends}
use Rattle.role_steps.specs.declared.copies.FileCopy.{FileCopy}
use Rattle.role_steps.specs.declared.pulls.Pull.{Pull}
use Rattle.the_run.specs.Kept.{Among}
use Rattle.the_run.specs.Worlds.{Line, told_onto}
use Rattle.tree_model.specs.Files.{HeldVersion, held_version, version_of}
use Rattle.tree_model.specs.Histories.{held, history}
use Rattle.tree_laws.specs.Deltas.{PullsAbove, WantsOver}
use Rattle.tree_laws.specs.Doing.{AllTold, IsAdopted, PullsFact}
use Rattle.tree_laws.specs.Frames.{VersionsStay}
use Rattle.tree_laws.specs.Instances.{Stands}
use Rattle.tree_laws.specs.Printed.{entries}
use Rattle.tree_laws.specs.Stores.{CopiesAreHeld, PullFact, copy_for}
use Rattle.tree_laws.proofs.Histories.{stands_more}
use Rattle.tree_laws.proofs.Rows.{followed_rows}
use Rattle.tree_laws.proofs.Versions.{versions_stay}
use Rattle.store_laws.specs.Pulling.{AdoptsFile, MakesVersion}
use Rattle.store_laws.proofs.Holding.{HeldAfter, held_after, held_stands}
use Rattle.store_laws.proofs.Pulls.{held_same}
use Rattle.store_laws.proofs.Tabled.{file_of_key, row_found, row_other, row_same}
use Rattle.tree_laws.proofs.Orders.Standing.{same_stamp_eq}
use Rattle.tree_laws.proofs.Syncs.Orderly.{below_through}
use Rattle.store_laws.specs.OneTree.Places.{AllAt}
use Rattle.store_laws.specs.OneTree.Rest.{AllRest, Comes, Past, more}
use Rattle.store_laws.proofs.OneTree.Frames.{adopts_of}
use Rattle.store_laws.proofs.OneTree.Framing.{stay_over}
use Rattle.store_laws.proofs.OneTree.NewVersions.{new_not_below}
use Rattle.store_laws.proofs.OneTree.Staying.{stays}

-- ---- a line ----

module _ (c : Config) (n : ℕ) (x : Told) (older : List Line) (k : Comes c older x) (me : ℕ) (ps : List Pull) (f : FileId) (wanted own : Stamp) (away : AdoptsFile me f x → ⊥) (stands : Stands c older f wanted) (w : WantsOver c older me ps f wanted own) where
  v : VersionsStay c older (more n x older)
  v = versions_stay c n x older k.past.followed k.may ((stays c).all n x older k).fresh ((stays c).all n x older k).order

  vector_same : vector_of (history c (entries (more n x older))) f wanted ≡ vector_of (history c (entries older)) f wanted
  vector_same = v.vectors f wanted stands

  above_now : (p : Pull) → PullsAbove c older f wanted own p → PullsAbove c (more n x older) f wanted own p
  above_now p a = record { base_is = a.base_is; above = over a.above }
    where
      over : (p.stamp ≡ wanted) ⊎ (is_below (vector_of (history c (entries older)) f wanted) p.vector ≡ true) → (p.stamp ≡ wanted) ⊎ (is_below (vector_of (history c (entries (more n x older))) f wanted) p.vector ≡ true)
      over (inl e) = inl e
      over (inr b) = inr (subst (λ (y : List ℕ). is_below y p.vector ≡ true) (sym vector_same) b)

  over_now : ((w.now.stamp ≡ own) × ((p : Pull) × (pull_of ps f ≡ Some p) × PullsAbove c older f wanted own p)) ⊎ (is_below w.now.vector (vector_of (history c (entries older)) f wanted) ≡ false) →
      ((w.now.stamp ≡ own) × ((p : Pull) × (pull_of ps f ≡ Some p) × PullsAbove c (more n x older) f wanted own p)) ⊎ (is_below w.now.vector (vector_of (history c (entries (more n x older))) f wanted) ≡ false)
  over_now (inl a) = inl (a.0, (a.1.0, a.1.1, above_now a.1.0 a.1.2))
  over_now (inr b) = inr (subst (λ (y : List ℕ). is_below w.now.vector y ≡ false) (sym vector_same) b)

  by_held : HeldAfter c n x older me f → WantsOver c (more n x older) me ps f wanted own
  by_held (inl e) = record {
    now = w.now;
    held = ap (option_map (version_of c (entries (more n x older)) f)) e ∙ (held_same c older (more n x older) v f (held c (entries older) me f) (λ s q. held_stands c (entries older) (followed_rows c older k.past.followed) me f s q) ∙ w.held);
    over = over_now w.over;
  }
  by_held (inr made) = record {
    now = version_of c (entries (more n x older)) f made.0;
    held = ap (option_map (version_of c (entries (more n x older)) f)) made.2;
    over = inr (subst (λ (y : List ℕ). is_below (vector_of (history c (entries (more n x older))) f made.0) y ≡ false) (sym vector_same) (new_not_below c n x older k me f made.0 made.1 wanted stands));
  }

  pub wants_line : WantsOver c (more n x older) me ps f wanted own
  wants_line = by_held (held_after c n x older me f away)

-- over all lines of an event, where none is an adoption at the site
pub wants_lines : (c : Config) (n : ℕ) (me : ℕ) (ps : List Pull) (f : FileId) (wanted own : Stamp) (told : List Told) (trace : List Line) → Past c trace → AllTold c n trace told → AllRest c n trace told → AllAt (λ t x. IsAdopted me x → ⊥) n trace told → Stands c trace f wanted → WantsOver c trace me ps f wanted own → WantsOver c (told_onto n told trace) me ps f wanted own
wants_lines c n me ps f wanted own told trace past may rest none stands w = (stay_over c n (λ t x. IsAdopted me x → ⊥) (λ t. Stands c t f wanted × WantsOver c t me ps f wanted own)
    (λ x older comes no k. (stands_more c n x older f wanted k.0, wants_line c n x older comes me ps f wanted own (λ a. no (adopts_of me f x a)) k.0 k.1)) told trace past may rest none (stands, w)).1

-- ---- another pull in its place ----

-- the pull of a file after one is put in: that one for its file, and what was there for others
with_found : (p : Pull) (ps : List Pull) (f : FileId) (P : Option Pull → Type 0) → (pull_key p ≡ file_key f → P (Some p)) → ((pull_key p ≡ file_key f → ⊥) → P (pull_of ps f)) → P (pull_of (with_row pull_key p ps) f)
with_found p ps f P same other = over (pull_key p == file_key f) refl
  where
    apart : (pull_key p == file_key f) ≡ false → pull_key p ≡ file_key f → ⊥
    apart e q = true_false (sym (subst (λ (k : ℕ). (pull_key p == k) ≡ true) q (equal_self (pull_key p))) ∙ e)

    over : (b : Bool) → (pull_key p == file_key f) ≡ b → P (pull_of (with_row pull_key p ps) f)
    over true e = subst P (sym (subst (λ (k : ℕ). row pull_key k (with_row pull_key p ps) ≡ Some p) (equal (pull_key p) (file_key f) e) (row_same pull_key p ps))) (same (equal (pull_key p) (file_key f) e))
    over false e = subst P (sym (row_other pull_key p (file_key f) ps (apart e))) (other (apart e))

-- where the pull of its file is as far, what is wanted is wanted still
module _ (c : Config) (trace : List Line) (me : ℕ) (ps : List Pull) (p : Pull) (f : FileId) (wanted own : Stamp) where
  pub replaced_wants : ((now : HeldVersion) (q : Pull) → held_version c (entries trace) me f ≡ Some now → now.stamp ≡ own → pull_key p ≡ file_key f → pull_of ps f ≡ Some q → PullsAbove c trace f wanted own q → PullsAbove c trace f wanted own p) →
      WantsOver c trace me ps f wanted own → WantsOver c trace me (with_row pull_key p ps) f wanted own
  replaced_wants as_far w = record { now = w.now; held = w.held; over = over w.over }
    where
      over : ((w.now.stamp ≡ own) × ((q : Pull) × (pull_of ps f ≡ Some q) × PullsAbove c trace f wanted own q)) ⊎ (is_below w.now.vector (vector_of (history c (entries trace)) f wanted) ≡ false) →
          ((w.now.stamp ≡ own) × ((q : Pull) × (pull_of (with_row pull_key p ps) f ≡ Some q) × PullsAbove c trace f wanted own q)) ⊎ (is_below w.now.vector (vector_of (history c (entries trace)) f wanted) ≡ false)
      over (inr b) = inr b
      over (inl a) = inl (a.0, with_found p ps f (λ (o : Option Pull). (q : Pull) × (o ≡ Some q) × PullsAbove c trace f wanted own q) (λ same. (p, refl, as_far w.now a.1.0 w.held a.0 same a.1.1 a.1.2)) (λ other. a.1))

-- ---- Notify ----

module _ (c : Config) (trace : List Line) (narrow_all : (file : FileId) (stamp : Stamp) → Stands c trace file stamp → file.ino < inode_span) (f : Frame) (s : Store) (copies : CopiesAreHeld c trace f.me s) (ps : List Pull) (facts : PullsFact c f trace ps) (p : Pull) (low : p.file.ino < inode_span) (g : FileId) (narrow : g.ino < inode_span) (wanted own : Stamp) where
  -- a pull over the own version that is replaced is of a lower one
  module _ (replaced : replaces_pull (copy_of s p.file) p (pull_of ps p.file) ≡ true) (now : HeldVersion) (q : Pull) (held_is : held_version c (entries trace) f.me g ≡ Some now) (at_own : now.stamp ≡ own) (same : pull_key p ≡ file_key g) (found : pull_of ps g ≡ Some q) (above : PullsAbove c trace g wanted own q) where
    file_is : p.file ≡ g
    file_is = file_of_key p.file g low narrow same

    copy_here : copy_of s p.file ≡ Some (copy_for g now)
    copy_here = ap (copy_of s) file_is ∙ (copies.are g narrow ∙ ap (option_map (copy_for g)) held_is)

    is_same : same_stamp now.stamp own ≡ true
    is_same = subst (λ (y : Stamp). same_stamp now.stamp y ≡ true) at_own (self now.stamp)
      where
        self : (y : Stamp) → same_stamp y y ≡ true
        self y = grind (arith, nat_tests)

    over_own : is_over (copy_of s p.file) q.base ≡ true
    over_own = ap (λ (o : Option FileCopy). is_over o q.base) copy_here ∙ (ap (is_over (Some (copy_for g now))) above.base_is ∙ is_same)

    lower : is_below q.vector p.vector ≡ true
    lower = first (is_below q.vector p.vector) (is_over (copy_of s p.file) q.base) over_own
        (sym (ap (replaces_pull (copy_of s p.file) p) (ap (pull_of ps) file_is ∙ found)) ∙ replaced)
      where
        first : (a b : Bool) → b ≡ true → a || not b ≡ true → a ≡ true
        first true b e k = refl
        first false true e k = absurd (true_false (sym k))
        first false false e k = absurd (true_false (sym e))

    fact : PullFact c trace f.epoch f.me q
    fact = (row_found pull_key (file_key g) ps q (PullFact c trace f.epoch f.me) found facts).0

    q_file : q.file ≡ g
    q_file = file_of_key q.file g (narrow_all q.file fact.version.stamp fact.is_version.stands) narrow (row_found pull_key (file_key g) ps q (PullFact c trace f.epoch f.me) found facts).1

    higher : (q.stamp ≡ wanted) ⊎ (is_below (vector_of (history c (entries trace)) g wanted) q.vector ≡ true) → is_below (vector_of (history c (entries trace)) g wanted) p.vector ≡ true
    higher (inl e) = subst (λ (y : List ℕ). is_below y p.vector ≡ true) (sym fact.vector_is ∙ (ap (λ (y : HeldVersion). y.vector) fact.is_version.same ∙ (ap (vector_of (history c (entries trace)) q.file) (fact.stamp_is ∙ e) ∙ ap (λ (y : FileId). vector_of (history c (entries trace)) y wanted) q_file))) lower
    higher (inr b) = below_through (vector_of (history c (entries trace)) g wanted) q.vector p.vector b lower

    above_new : PullsAbove c trace g wanted own (pull_over (copy_of s p.file) p)
    above_new = subst (λ (o : Option FileCopy). PullsAbove c trace g wanted own (pull_over o p)) (sym copy_here) (record { base_is = ap Some at_own; above = inr (higher above.above) })

  pub notify_wants : (from : ℕ) → WantsOver c trace f.me ps g wanted own → WantsOver c trace f.me (on_notify f from (copy_of s p.file) p ps).view g wanted own
  notify_wants from w = over (copy_of s p.file) refl
    where
      key_is : (o : Option FileCopy) → pull_key (pull_over o p) ≡ pull_key p
      key_is None = refl
      key_is (Some x) = refl

      begins : (b : Bool) → replaces_pull (copy_of s p.file) p (pull_of ps p.file) ≡ b → WantsOver c trace f.me (elim b as (λ (z : Bool). Outcome (List Pull)) [ true ↦ goes_on f (pull_over (copy_of s p.file) p) ps | false ↦ quiet ps ]).view g wanted own
      begins true e = replaced_wants c trace f.me ps (pull_over (copy_of s p.file) p) g wanted own (λ now q h a same found above. above_new e now q h a (sym (key_is (copy_of s p.file)) ∙ same) found above) w
      begins false e = w

      begun : WantsOver c trace f.me (begins_pull f (copy_of s p.file) p ps).view g wanted own
      begun = begins (replaces_pull (copy_of s p.file) p (pull_of ps p.file)) refl

      above : (x : FileCopy) → WantsOver c trace f.me (begins_pull f (Some x) p ps).view g wanted own → (b : Bool) → WantsOver c trace f.me (elim b as (λ (z : Bool). Outcome (List Pull)) [ true ↦ begins_pull f (Some x) p ps | false ↦ quiet ps ]).view g wanted own
      above x k true = k
      above x k false = w

      known : (x : FileCopy) → WantsOver c trace f.me (begins_pull f (Some x) p ps).view g wanted own → (b : Bool) → WantsOver c trace f.me (elim b as (λ (z : Bool). Outcome (List Pull)) [ true ↦ sends (packet f from (body.Have p.file p.stamp) ∷ []) ps | false ↦ elim (is_below x.vector p.vector) [ true ↦ begins_pull f (Some x) p ps | false ↦ quiet ps ] ]).view g wanted own
      known x k true = w
      known x k false = above x k (is_below x.vector p.vector)

      over : (o : Option FileCopy) → copy_of s p.file ≡ o → WantsOver c trace f.me (on_notify f from o p ps).view g wanted own
      over None e = subst (λ (o : Option FileCopy). WantsOver c trace f.me (begins_pull f o p ps).view g wanted own) e begun
      over (Some x) e = known x (subst (λ (o : Option FileCopy). WantsOver c trace f.me (begins_pull f o p ps).view g wanted own) e begun) (same_stamp x.stamp p.stamp)

-- ---- Page and Delta ----

-- the pull goes on as it was but for its pages
goes_wants : (c : Config) (trace : List Line) (me : ℕ) (ps : List Pull) (file : FileId) (q p : Pull) → pull_of ps file ≡ Some q → pull_key q ≡ file_key file → pull_key p ≡ pull_key q → p.stamp ≡ q.stamp → p.vector ≡ q.vector → p.base ≡ q.base → (g : FileId) (wanted own : Stamp) →
    WantsOver c trace me ps g wanted own → WantsOver c trace me (with_row pull_key p ps) g wanted own
goes_wants c trace me ps file q p found key_is same stamp_is vector_is base_is g wanted own w = replaced_wants c trace me ps p g wanted own as_far w
  where
    as_far : (now : HeldVersion) (r : Pull) → held_version c (entries trace) me g ≡ Some now → now.stamp ≡ own → pull_key p ≡ file_key g → pull_of ps g ≡ Some r → PullsAbove c trace g wanted own r → PullsAbove c trace g wanted own p
    as_far now r h a at here above = record { base_is = base_is ∙ (ap (λ (y : Pull). y.base) it ∙ above.base_is); above = over above.above }
      where
        it : q ≡ r
        it = some_same q r (sym found ∙ (ap (λ (k : ℕ). row pull_key k ps) (sym key_is ∙ (sym same ∙ at)) ∙ here))

        over : (r.stamp ≡ wanted) ⊎ (is_below (vector_of (history c (entries trace)) g wanted) r.vector ≡ true) → (p.stamp ≡ wanted) ⊎ (is_below (vector_of (history c (entries trace)) g wanted) p.vector ≡ true)
        over (inl e) = inl (stamp_is ∙ (ap (λ (y : Pull). y.stamp) it ∙ e))
        over (inr b) = inr (subst (λ (y : List ℕ). is_below (vector_of (history c (entries trace)) g wanted) y ≡ true) (sym (vector_is ∙ ap (λ (y : Pull). y.vector) it)) b)

any_fact : (ps : List Pull) → Every (λ (p : Pull). Unit {0}) ps
any_fact [] = tt
any_fact (p ∷ ps) = (tt, any_fact ps)

pub page_wants : (c : Config) (trace : List Line) (f : Frame) (ps : List Pull) (file : FileId) (stamp : Stamp) (page : ℕ) (bytes : List ℕ) (g : FileId) (wanted own : Stamp) → WantsOver c trace f.me ps g wanted own → WantsOver c trace f.me (on_page f file stamp page bytes ps).view g wanted own
page_wants c trace f ps file stamp page bytes g wanted own w = over (pull_of ps file) refl
  where
    at : (p : Pull) → pull_of ps file ≡ Some p → (b : Bool) → WantsOver c trace f.me (elim b as (λ (z : Bool). Outcome (List Pull)) [ true ↦ goes_on f (record p { content = p.content ++ bytes }) ps | false ↦ quiet ps ]).view g wanted own
    at p e true = goes_wants c trace f.me ps file p (record p { content = p.content ++ bytes }) e (row_found pull_key (file_key file) ps p (λ (y : Pull). Unit {0}) e (any_fact ps)).1 refl refl refl refl g wanted own w
    at p e false = w

    over : (o : Option Pull) → pull_of ps file ≡ o → WantsOver c trace f.me (on_page_of f stamp page bytes o ps).view g wanted own
    over None e = w
    over (Some p) e = at p e (is_awaited p stamp page bytes)

pub delta_wants : (c : Config) (trace : List Line) (f : Frame) (ps : List Pull) (o : Option FileCopy) (file : FileId) (stamp : Stamp) (pages : List ℕ) (g : FileId) (wanted own : Stamp) → WantsOver c trace f.me ps g wanted own → WantsOver c trace f.me (on_delta f o file stamp pages ps).view g wanted own
delta_wants c trace f ps o file stamp pages g wanted own w = over (pull_of ps file) refl
  where
    at : (p : Pull) → pull_of ps file ≡ Some p → (b : Bool) → WantsOver c trace f.me (elim b as (λ (z : Bool). Outcome (List Pull)) [ true ↦ goes_on f (record p { wanted = Some pages }) ps | false ↦ quiet ps ]).view g wanted own
    at p e true = goes_wants c trace f.me ps file p (record p { wanted = Some pages }) e (row_found pull_key (file_key file) ps p (λ (y : Pull). Unit {0}) e (any_fact ps)).1 refl refl refl refl g wanted own w
    at p e false = w

    over : (q : Option Pull) → pull_of ps file ≡ q → WantsOver c trace f.me (on_delta_of f (pages_in o) stamp pages q ps).view g wanted own
    over None e = w
    over (Some p) e = at p e (is_delta (pages_in o) p stamp pages)
