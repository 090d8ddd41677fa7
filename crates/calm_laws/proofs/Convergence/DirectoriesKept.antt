-- While only mends have a directory open, its synchronization site goes on to have at least what is known of it, from where a mend of it began
-- on: a mend begins where that site has the only kept version, and all that is published then was committed there.
use Rattle.std.proofs.Common.{◌≡◌, ℕ, ◌==◌, Bool, true, false, cond, ◌&&◌, ◌||◌, ◌⊎◌, List, [], ◌∷◌, map, filter, Option, Some, None, refl, sym, ◌∙◌, ap, subst, inl, inr, arith}
use Rattle.std.proofs.lemmas.Bool.Decides.{nat_tests}
use Rattle.role_steps.proofs.of_plain_facts.Numbers.{equal}
use Rattle.role_steps.proofs.of_plain_facts.Tests.{or_either, or_second, true_false}
use Rattle.locus_ids.specs.declared.config.Config.{Config}
use Rattle.locus_ids.specs.declared.ids.Brought.{Brought}
use Rattle.locus_ids.specs.declared.ids.CallId.{CallId}
use Rattle.locus_ids.specs.declared.ids.EpochId.{EpochId}
use Rattle.locus_ids.specs.declared.ids.FileId.{FileId}
use Rattle.locus_ids.specs.declared.ids.Mode.TheVariants as mode
use Rattle.locus_ids.specs.declared.ids.Serial.{Serial}
use Rattle.locus_ids.specs.declared.ids.Stamp.{Stamp}
use Rattle.commit_graph.specs.Versions.{same_stamp}
use Rattle.commit_graph.proofs.Names.{same_stamp_eq}
use Rattle.trace_book.specs.Same.{same_epoch}
use Rattle.trace_book.specs.declared.call.Call.TheVariants as call
use Rattle.trace_book.specs.declared.record.Record.{Record}
use Rattle.trace_book.specs.declared.record.Record.TheVariants as says
use Rattle.role_steps.specs.Views.{Told, Shown}
use Rattle.the_run.specs.Kept.{Among}
use Rattle.the_run.specs.Worlds.{Line}
use Rattle.tree_model.specs.declared.instance.Instance.{Instance}
use Rattle.tree_model.specs.declared.accepted.Waiting.{Waiting}
use Rattle.tree_model.specs.Calls.{call_named, waiting}
use Rattle.tree_model.specs.Epochs.{epoch_of}
use Rattle.tree_model.specs.Histories.{history}
use Rattle.tree_model.specs.Same.{same_brought}
use Rattle.tree_model.specs.State.{TreeState, has_stamp, is_brought_below, stamps_of, with_brought}
use Rattle.tree_model.specs.Tree.{candidates, released, tree_of}
use Rattle.lawful_trace.specs.TreeRows.{IsCallIn}
use Rattle.tree_laws.specs.Following.{MayTell}
use Rattle.tree_laws.specs.Instances.{HasAtLeast, IsKnown, IsStarted, held_in, instance_now}
use Rattle.tree_laws.specs.Past.{WasGranted}
use Rattle.tree_laws.specs.Printed.{entries, onto_entries}
use Rattle.tree_laws.proofs.Rows.{followed_rows}
use Rattle.tree_laws.proofs.Orders.Keeping.{EndsIn, ends_in, file_eq, known_same, published_same}
use Rattle.store_laws.specs.Holdings.Held.{StandsOnHeld}
use Rattle.store_laws.proofs.Holdings.Ancestors.{ancestor_own}
use Rattle.store_laws.proofs.Holdings.Below.{commits_new, packs_hold}
use Rattle.store_laws.proofs.Holdings.Distinct.{open_now}
use Rattle.store_laws.proofs.Holdings.Holding.{stands_on_held}
use Rattle.store_laws.proofs.Holdings.Released.{released_shut}
use Rattle.store_laws.proofs.Holdings.Rising.{held_rises}
use Rattle.store_laws.proofs.Holdings.Seats.{same_version_is}
use Rattle.store_laws.proofs.Places.{GrantedSo, instance_granted}
use Rattle.store_laws.specs.OneTree.Rest.{Past}
use Rattle.store_laws.proofs.OneTree.Staying.{rest_below}
use Rattle.rest_laws.proofs.Fits.EntryFacts.{IsPlain}
use Rattle.store_laws.proofs.Holdings.MendMends.{IsMendCall}
use Rattle.calm_laws.proofs.Convergence.DirectoriesMode.{IsToMend, mend_mode}
use Rattle.calm_laws.proofs.Convergence.DirectoriesOpeners.{grantee, waits_or_plain}

-- ---- what is published ----

abbrev Has : List Brought → ℕ → Stamp → Type 0
Has bs ino v = has_stamp (stamps_of bs ino) v ≡ true

first_or : (ino : ℕ) (b : Brought) (bs : List Brought) (v : Stamp) → Has (b ∷ bs) ino v → (b.stamp ≡ v) ⊎ Has bs ino v
first_or ino b bs v k = at (b.ino == ino) k
  where
    either : (same_stamp b.stamp v ≡ true) ⊎ Has bs ino v → (b.stamp ≡ v) ⊎ Has bs ino v
    either (inl e) = inl (same_stamp_eq b.stamp v e)
    either (inr h) = inr h

    at : (y : Bool) → has_stamp (map (λ (z : Brought). z.stamp) (cond y (b ∷ filter (λ (z : Brought). z.ino == ino) bs) (filter (λ (z : Brought). z.ino == ino) bs))) v ≡ true → (b.stamp ≡ v) ⊎ Has bs ino v
    at true q = either (or_either (same_stamp b.stamp v) (has_stamp (stamps_of bs ino) v) q)
    at false q = inr q

later_has : (ino : ℕ) (b : Brought) (bs : List Brought) (v : Stamp) → Has bs ino v → Has (b ∷ bs) ino v
later_has ino b bs v k = at (b.ino == ino)
  where
    at : (y : Bool) → has_stamp (map (λ (z : Brought). z.stamp) (cond y (b ∷ filter (λ (z : Brought). z.ino == ino) bs) (filter (λ (z : Brought). z.ino == ino) bs))) v ≡ true
    at true = or_second (same_stamp b.stamp v) (has_stamp (stamps_of bs ino) v) k
    at false = k

same_first : (ino : ℕ) (b : Brought) (bs cs : List Brought) (v : Stamp) → (Has cs ino v → Has bs ino v ⊎ ⊥) → Has (b ∷ cs) ino v → Has (b ∷ bs) ino v
same_first ino b bs cs v f k = at (b.ino == ino) k
  where
    none : Has bs ino v ⊎ ⊥ → Has bs ino v
    none (inl h) = h
    none (inr z) = absurd z

    keep : (a x : Bool) → (a || x) ≡ true → (x ≡ true → Has bs ino v) → (a || has_stamp (stamps_of bs ino) v) ≡ true
    keep true x q g = refl
    keep false x q g = g q

    at : (y : Bool) → has_stamp (map (λ (z : Brought). z.stamp) (cond y (b ∷ filter (λ (z : Brought). z.ino == ino) cs) (filter (λ (z : Brought). z.ino == ino) cs))) v ≡ true → has_stamp (map (λ (z : Brought). z.stamp) (cond y (b ∷ filter (λ (z : Brought). z.ino == ino) bs) (filter (λ (z : Brought). z.ino == ino) bs))) v ≡ true
    at true q = keep (same_stamp b.stamp v) (has_stamp (stamps_of cs ino) v) q (λ h. none (f h))
    at false q = none (f q)

-- of the stamps then one is the new one's, or it was there
brought_either : (ino : ℕ) (new : Brought) (bs : List Brought) (v : Stamp) → Has (with_brought new bs) ino v → (new.stamp ≡ v) ⊎ Has bs ino v
brought_either ino new [] v h = first_or ino new [] v h
brought_either ino new (b ∷ bs) v h = over (is_brought_below new b) (same_brought new b) h (brought_either ino new bs v)
  where
    Result : Type 0
    Result = (new.stamp ≡ v) ⊎ Has (b ∷ bs) ino v

    by_first : (b.stamp ≡ v) ⊎ Has (with_brought new bs) ino v → Has (b ∷ with_brought new bs) ino v → (Has (with_brought new bs) ino v → (new.stamp ≡ v) ⊎ Has bs ino v) → Result
    by_first (inl e) k later = by_stamp (same_stamp new.stamp v) refl
      where
        by_stamp : (y : Bool) → same_stamp new.stamp v ≡ y → Result
        by_stamp true q = inl (same_stamp_eq new.stamp v q)
        by_stamp false q = inr (same_first ino b bs (with_brought new bs) v (λ m. turn (later m)) k)
          where
            turn : (new.stamp ≡ v) ⊎ Has bs ino v → Has bs ino v ⊎ ⊥
            turn (inl z) = inr (true_false (sym (ap (λ (x : Stamp). same_stamp x v) z ∙ own v) ∙ q))
              where
                own : (x : Stamp) → same_stamp x x ≡ true
                own x = grind (arith, nat_tests)
            turn (inr z) = inl z
    by_first (inr m) k later = by_later (later m)
      where
        by_later : (new.stamp ≡ v) ⊎ Has bs ino v → Result
        by_later (inl z) = inl z
        by_later (inr z) = inr (later_has ino b bs v z)

    over : (x y : Bool) → Has (cond x (new ∷ b ∷ bs) (cond y (b ∷ bs) (b ∷ with_brought new bs))) ino v → (Has (with_brought new bs) ino v → (new.stamp ≡ v) ⊎ Has bs ino v) → Result
    over true y k later = first_or ino new (b ∷ bs) v k
    over false true k later = inr k
    over false false k later = by_first (first_or ino b (with_brought new bs) v k) k later

-- ---- a moment ----

-- a moment at which only mends have the directory open
pub record OnlyMends (c : Config) (t : List Line) (e : EpochId) (f : FileId) (css : ℕ) : Type 0 where
  pub past : Past c t
  pub started : IsStarted c t e f.group
  pub inside : (d : CallId) → IsCallIn (entries t) e d → epoch_of (entries t) d.site ≡ Some e
  pub no_plain : IsPlain c t f → ⊥
  pub waits : (d : CallId) (q : IsCallIn (entries t) e d) → Among q.accepted (waiting (entries t)) → IsMendCall q.accepted.words
  pub mend_site : (d : CallId) (y : Waiting) → call_named (entries t) d ≡ Some y → y.epoch ≡ Some e → y.words ≡ call.Mend f → y.site ≡ css
  pub at_sync : (d : CallId) (request : ℕ) (i : Serial) (stamp : Option Stamp) (ss : ℕ) → WasGranted t e d request i mode.Mend f stamp ss → ss ≡ css

-- the site has at least each version that is known
abbrev pub HasKnown : Config → List Line → EpochId → FileId → ℕ → Type 0
HasKnown c t e f css = (v : Stamp) → IsKnown c t e f v → HasAtLeast c t e css f v

module _ (c : Config) (t : List Line) (e : EpochId) (f : FileId) (css : ℕ) (m : OnlyMends c t e f css) where
  -- an instance of it is open at that site
  pub open_there : (i : Serial) (x : Instance) → instance_now c t e i ≡ Some x → x.grant.file ≡ f → x.grant.ss ≡ css
  open_there i x now is_file = by_call (waits_or_plain c m.past.rest.packs t m.past.followed e x.grant.call g.0.request i x.grant.mode f g.0.stamp x.grant.ss was (λ over. released_shut c t m.past.followed e i x over now) (m.inside x.grant.call its))
    where
      g : GrantedSo t e x.grant × (x.grant.inst ≡ i)
      g = instance_granted c t e i x now

      was : WasGranted t e x.grant.call g.0.request i x.grant.mode f g.0.stamp x.grant.ss
      was = subst (λ (j : Serial). WasGranted t e x.grant.call g.0.request j x.grant.mode f g.0.stamp x.grant.ss) g.1 (subst (λ (y : FileId). WasGranted t e x.grant.call g.0.request x.grant.inst x.grant.mode y g.0.stamp x.grant.ss) is_file g.0.was_granted)

      its : IsCallIn (entries t) e x.grant.call
      its = grantee c m.past.rest.packs t m.past.followed e x.grant.call g.0.request i x.grant.mode f g.0.stamp x.grant.ss was

      by_call : Among its.accepted (waiting (entries t)) ⊎ IsPlain c t f → x.grant.ss ≡ css
      by_call (inl a) = (let mends : IsToMend x.grant.mode f its.accepted.words = mend_mode c m.past.rest.packs t m.past.followed e x.grant.call g.0.request i x.grant.mode f g.0.stamp x.grant.ss was its (m.waits x.grant.call its a) in
          m.at_sync x.grant.call g.0.request i g.0.stamp x.grant.ss (subst (λ (y : _). WasGranted t e x.grant.call g.0.request i y f g.0.stamp x.grant.ss) mends.mode_is was))
      by_call (inr p) = absurd (m.no_plain p)

  -- what is published then the site has
  module _ (d : EpochId) (j : Serial) (q : FileId) (v : Stamp) (w : EndsIn c (entries t) e f d j q (Some v)) (mine : q ≡ f) where
    now : instance_now c t e j ≡ Some w.ended
    now = open_now c t m.past.followed e f.group j w.ended w.found

    stands : StandsOnHeld c (entries t) e w.ended
    stands = stands_on_held c t m.past.followed e j w.ended now

    held_now : held_in c (entries t) e css f ≡ Some v
    held_now = ap (λ (s : ℕ). held_in c (entries t) e s f) (sym (open_there j w.ended now (w.file_is ∙ mine)))
        ∙ (ap (held_in c (entries t) e w.ended.grant.ss) (sym (w.file_is ∙ mine)) ∙ (sym stands.last_is ∙ stands.made v (sym (same_version_is (Some v) w.ended.work.committed w.made))))

    has_published : HasAtLeast c t e css f v
    has_published = record { now = v; held = held_now; above = ancestor_own (history c (entries t)) f v }

  -- ---- a line ----

  module _ (old : HasKnown c t e f css) where
    abbrev tree : TreeState
    tree = tree_of c e f.group (entries t)

    release_has : (n : ℕ) (d : EpochId) (j : Serial) (q : FileId) (stamp : Option Stamp) → MayTell c t (Shown (says.Release d j q stamp)) → (v : Stamp) → has_stamp (candidates c (record { line = n; what = says.Release d j q stamp } ∷ entries t) e f) v ≡ true → HasAtLeast c t e css f v
    release_has n d j q stamp may v h = over (same_epoch d tree.epoch && (q.group == tree.group)) refl (q.ino == f.ino) refl stamp refl h
      where
        over : (a : Bool) → same_epoch d tree.epoch && (q.group == tree.group) ≡ a → (b : Bool) → (q.ino == f.ino) ≡ b → (o : Option Stamp) → stamp ≡ o → Has (cond a (released j q o tree) tree).known f.ino v → HasAtLeast c t e css f v
        over false p b l o k z = old v z
        over true p b l None k z = old v z
        over true p false l (Some s) k z = old v (subst (λ (ss : List Stamp). has_stamp ss v ≡ true) (published_same q (Some s) f.ino tree.known l) z)
        over true p true l (Some s) k z = by_new (brought_either f.ino (record { ino = q.ino; stamp = s }) tree.known v z)
          where
            w : EndsIn c (entries t) e f d j q stamp
            w = ends_in c (entries t) e f d j q stamp may.row.gives p

            by_new : (s ≡ v) ⊎ Has tree.known f.ino v → HasAtLeast c t e css f v
            by_new (inl is) = has_published d j q v (subst (EndsIn c (entries t) e f d j q) (k ∙ ap Some is) w) (file_eq q f w.group_is (equal q.ino f.ino l))
            by_new (inr z) = old v z

    record_has : (n : ℕ) (r : Record) → MayTell c t (Shown r) → (v : Stamp) → has_stamp (candidates c (record { line = n; what = r } ∷ entries t) e f) v ≡ true → HasAtLeast c t e css f v
    record_has n (says.Release d j q stamp) may v h = release_has n d j q stamp may v h
    record_has n r may v h = old v (subst (λ (ss : List Stamp). has_stamp ss v ≡ true) (known_same c (entries t) m.past.rest.packs (followed_rows c t m.past.followed) e f m.started r may.row tt) h)

    told_has : (n : ℕ) (x : Told) → MayTell c t x → (v : Stamp) → has_stamp (candidates c (onto_entries n x (entries t)) e f) v ≡ true → HasAtLeast c t e css f v
    told_has n (Shown r) may v h = record_has n r may v h
    told_has n _ may v h = old v h

    pub known_on : (x : Line) → Past c (x ∷ t) → HasKnown c (x ∷ t) e f css
    known_on x past v h = held_rises c t x.number x.told m.past.followed past.followed.0 (packs_hold c t (rest_below c t m.past.rest).packed) (commits_new c (x ∷ t) past.followed (rest_below c (x ∷ t) past.rest).once) e css f v (told_has x.number x.told past.followed.0 v h)
