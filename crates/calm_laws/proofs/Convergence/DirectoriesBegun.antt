-- Since a moment at which no call of the epoch waits: once a mend of the directory has begun, its synchronization site has at least what is known.
use Rattle.std.proofs.Common.{◌≡◌, ℕ, ◌==◌, Bool, true, false, cond, not, filter, ◌&&◌, ◌||◌, ◌⊎◌, List, [], ◌∷◌, ◌++◌, length, Option, Some, None, refl, sym, ◌∙◌, ap, subst, inl, inr, arith}
use Rattle.role_steps.proofs.of_plain_facts.Options.{some_same}
use Rattle.role_steps.proofs.of_plain_facts.Tests.{and_second, or_either, or_second, true_false}
use Rattle.locus_ids.specs.declared.config.Config.{Config}
use Rattle.locus_ids.specs.declared.ids.CallId.{CallId}
use Rattle.locus_ids.specs.declared.ids.EpochId.{EpochId}
use Rattle.locus_ids.specs.declared.ids.FileId.{FileId}
use Rattle.locus_ids.specs.declared.ids.Mode.TheVariants as mode
use Rattle.locus_ids.specs.declared.ids.Serial.{Serial}
use Rattle.locus_ids.specs.declared.ids.Stamp.{Stamp}
use Rattle.commit_graph.specs.Versions.{same_stamp, is_ancestor}
use Rattle.commit_graph.proofs.Names.{same_stamp_eq}
use Rattle.trace_book.specs.Same.{same_call}
use Rattle.trace_book.specs.declared.call.Call.{Call}
use Rattle.trace_book.specs.declared.call.Call.TheVariants as call
use Rattle.trace_book.specs.declared.record.Record.{Record}
use Rattle.trace_book.specs.declared.record.Record.TheVariants as says
use Rattle.role_steps.specs.Own.{Every}
use Rattle.role_steps.specs.Views.{Told, Shown}
use Rattle.the_run.specs.Kept.{Among}
use Rattle.the_run.specs.Worlds.{Line}
use Rattle.tree_model.specs.declared.accepted.Waiting.{Waiting}
use Rattle.tree_model.specs.Calls.{accepted_as, call_named, waiting}
use Rattle.tree_model.specs.Epochs.{epoch_of}
use Rattle.tree_model.specs.Folds.{Trace}
use Rattle.tree_model.specs.Histories.{history}
use Rattle.tree_model.specs.Mending.{wants_rescue_in}
use Rattle.tree_model.specs.Opening.{is_only}
use Rattle.tree_model.specs.State.{has_stamp}
use Rattle.tree_model.specs.Tree.{kept_in, tree_of}
use Rattle.tree_model.specs.Working.{are_several}
use Rattle.lawful_trace.specs.CallRows.{MayMend, has_lost_mend, is_lost_mend, is_mend_wanted}
use Rattle.lawful_trace.specs.TreeRows.{IsCallIn}
use Rattle.tree_laws.specs.Following.{IsFollowed, MayTell}
use Rattle.tree_laws.specs.Instances.{HasAtLeast, IsStarted, held_in}
use Rattle.tree_laws.specs.Past.{WasGranted}
use Rattle.tree_laws.specs.Printed.{entries, onto_entries}
use Rattle.tree_laws.proofs.Kinship.{started_stays}
use Rattle.tree_laws.proofs.OneBoot.{joined_where_made}
use Rattle.tree_laws.proofs.Origins.{kind_same}
use Rattle.tree_laws.proofs.Histories.{stands_more}
use Rattle.tree_laws.proofs.Rows.{followed_rows}
use Rattle.tree_laws.proofs.Scripts.{named_stays}
use Rattle.tree_laws.proofs.Waiting.{accepted}
use Rattle.store_laws.specs.Holdings.Held.{IsBelowKept}
use Rattle.store_laws.proofs.Holdings.Below.{commits_new}
use Rattle.store_laws.proofs.Holdings.Holding.{below_kept}
use Rattle.store_laws.proofs.Holdings.OneVersionSingle.{single_stays}
use Rattle.store_laws.specs.OneTree.Rest.{Past}
use Rattle.store_laws.proofs.OneTree.Staying.{rest_below}
use Rattle.rest_laws.proofs.Fits.EntryFacts.{IsPlain}
use Rattle.store_laws.proofs.Holdings.MendMends.{IsMendCall}
use Rattle.calm_laws.proofs.Lists.{every_among}
use Rattle.calm_laws.proofs.Convergence.DirectoriesKept.{HasKnown, OnlyMends, known_on}
use Rattle.calm_laws.proofs.Convergence.DirectoriesSince.{inside_told, waits_since}
use Rattle.calm_laws.proofs.Convergence.DirectoriesTold.{AcceptsMends}

filtered : {A : Type 0} (p : A → Bool) (y : A) (xs : List A) → Among y (filter p xs) → Among y xs
filtered p y [] a = absurd a
filtered {A = A} p y (x ∷ xs) a = over (p x) a (filtered p y xs)
  where
    over : (b : Bool) → Among {A = A} y (cond b (x ∷ filter p xs) (filter p xs)) → (Among y (filter p xs) → Among y xs) → Among y (x ∷ xs)
    over true (inl e) f = inl e
    over true (inr m) f = inr (f m)
    over false m f = inr (f m)

-- ---- a mend that was refused for good ----

lost_record : (e : EpochId) (f : FileId) (n : ℕ) (r : Record) (now : Trace) → has_lost_mend now e f ≡ true → has_lost_mend (record { line = n; what = r } ∷ now) e f ≡ true
lost_record e f n (says.Answer s process id reply) now h = or_second (is_lost_mend e f reply (call_named now id)) (has_lost_mend now e f) h
lost_record e f n r now h = h

lost_told : (e : EpochId) (f : FileId) (n : ℕ) (x : Told) (now : Trace) → has_lost_mend now e f ≡ true → has_lost_mend (onto_entries n x now) e f ≡ true
lost_told e f n (Shown r) now h = lost_record e f n r now h
lost_told e f n x now h = h

-- ---- a mend begins ----

not_several : (ks : List Stamp) → length ks ≡ 1 → are_several ks ≡ true → ⊥
not_several [] one h = absurd (true_false (sym h))
not_several (k ∷ []) one h = absurd (true_false (sym h))
not_several (k ∷ l ∷ ks) one h = omega (arith, one)

record Only (ks : List Stamp) (o : Option Stamp) : Type 0 where
  it : Stamp
  is_held : o ≡ Some it
  one : (v : Stamp) → has_stamp ks v ≡ true → v ≡ it

only_it : (ks : List Stamp) (o : Option Stamp) → is_only ks o ≡ true → Only ks o
only_it (k ∷ []) (Some s) h = record { it = s; is_held = refl; one = λ v q. sym (same_stamp_eq k v (first (same_stamp k v) q)) ∙ same_stamp_eq k s h }
  where
    first : (b : Bool) → (b || false) ≡ true → b ≡ true
    first true q = refl
    first false q = q
only_it [] o h = absurd (true_false (sym h))
only_it (k ∷ []) None h = absurd (true_false (sym h))
only_it (k ∷ l ∷ ks) o h = absurd (true_false (sym h))

-- where a mend begins its site has the only kept version
wanted_known : (c : Config) (t : List Line) (e : EpochId) (f : FileId) (s : ℕ) → Past c t → length (kept_in c (entries t) e f) ≡ 1 → is_mend_wanted (history c (entries t)) (tree_of c e f.group (entries t)) s f ≡ true → HasKnown c t e f s
wanted_known c t e f s past single wanted v known = over (or_either (are_several (kept_in c (entries t) e f)) _ wanted)
  where
    held : Only (kept_in c (entries t) e f) (held_in c (entries t) e s f) → HasAtLeast c t e s f v
    held o = (let b : IsBelowKept c (entries t) e f v = below_kept c (entries t) (followed_rows c t past.followed) (commits_new c t past.followed (rest_below c t past.rest).once) e f v known in
        record { now = o.it; held = o.is_held; above = subst (λ (x : Stamp). is_ancestor (history c (entries t)) f v x ≡ true) (o.one b.top b.is_kept) b.above })

    over : (are_several (kept_in c (entries t) e f) ≡ true) ⊎ ((wants_rescue_in (history c (entries t)) (tree_of c e f.group (entries t)) f && is_only (kept_in c (entries t) e f) (held_in c (entries t) e s f)) ≡ true) → HasAtLeast c t e s f v
    over (inl h) = absurd (not_several (kept_in c (entries t) e f) single h)
    over (inr h) = held (only_it (kept_in c (entries t) e f) (held_in c (entries t) e s f) (and_second (wants_rescue_in (history c (entries t)) (tree_of c e f.group (entries t)) f) _ h))

-- ---- since then ----

-- since the moment at which no call of the epoch waited only mends were accepted
pub record Since (c : Config) (old : List Line) (e : EpochId) (f : FileId) (css : ℕ) (new : List Line) : Type 0 where
  pub past : Past c (new ++ old)
  pub mends : Every AcceptsMends new
  pub started : IsStarted c old e f.group
  pub idle : (d : CallId) (q : IsCallIn (entries old) e d) → Among q.accepted (waiting (entries old)) → ⊥
  pub inside : (d : CallId) → IsCallIn (entries (new ++ old)) e d → epoch_of (entries (new ++ old)) d.site ≡ Some e
  pub no_plain : IsPlain c (new ++ old) f → ⊥
  pub mend_site : (d : CallId) (y : Waiting) → call_named (entries (new ++ old)) d ≡ Some y → y.epoch ≡ Some e → y.words ≡ call.Mend f → y.site ≡ css
  pub at_sync : (d : CallId) (request : ℕ) (i : Serial) (stamp : Option Stamp) (ss : ℕ) → WasGranted (new ++ old) e d request i mode.Mend f stamp ss → ss ≡ css

module _ (c : Config) (old : List Line) (e : EpochId) (f : FileId) (css : ℕ) where
  named_on : (x : Line) (t : List Line) → IsFollowed c (x ∷ t) → (d : CallId) (y : Waiting) → call_named (entries t) d ≡ Some y → call_named (entries (x ∷ t)) d ≡ Some y
  named_on x t h d y named = named_stays c x.number x.told t d h.1 h.0 (y, named) ∙ named

  since_before : (x : Line) (xs : List Line) → Since c old e f css (x ∷ xs) → Since c old e f css xs
  since_before x xs s = record {
    past = record { followed = s.past.followed.1; rest = record { each = s.past.rest.each.1; packs = s.past.rest.packs } };
    mends = s.mends.1;
    started = s.started;
    idle = s.idle;
    inside = λ d q. inside_told c x.number x.told t d.site e s.past.followed.0 (joined_where_made c t d e s.past.followed.1 q) (s.inside d (record { accepted = q.accepted; named = named_on x t s.past.followed d q.accepted q.named; made_in = q.made_in }));
    no_plain = λ p. s.no_plain (record { stamp = p.stamp; stands = stands_more c x.number x.told t f p.stamp p.stands; kind_is = kind_same c x.number x.told t f p.stamp s.past.followed.1 s.past.followed.0 p.stands ∙ p.kind_is });
    mend_site = λ d y named. s.mend_site d y (named_on x t s.past.followed d y named);
    at_sync = λ d request i stamp ss was. s.at_sync d request i stamp ss (inr was);
  }
    where
      t : List Line
      t = xs ++ old

  pub since_front : (more new : List Line) → Since c old e f css (more ++ new) → Since c old e f css new
  since_front [] new s = s
  since_front (x ∷ xs) new s = since_front xs new (since_before x (xs ++ new) s)

  started_since : (new : List Line) → Since c old e f css new → IsStarted c (new ++ old) e f.group
  started_since [] s = s.started
  started_since (x ∷ xs) s = started_stays c x.number x.told (xs ++ old) e f.group (started_since xs (since_before x xs s))

  single_since : (new : List Line) → Since c old e f css new → length (kept_in c (entries old) e f) ≡ 1 → length (kept_in c (entries (new ++ old)) e f) ≡ 1
  single_since [] s single = single
  single_since (x ∷ xs) s single = single_stays c (xs ++ old) x.number x.told s.past.rest.packs s.past.followed.1 s.past.followed.0 (commits_new c (x ∷ xs ++ old) s.past.followed (rest_below c (x ∷ xs ++ old) s.past.rest).once) e f (started_since xs (since_before x xs s)) (single_since xs (since_before x xs s) single)

  -- a call that waited at first was accepted in another epoch
  not_first : (new : List Line) → Since c old e f css new → (y : Waiting) → Among y (waiting (entries old)) → y.epoch ≡ Some e → IsFollowed c old → ⊥
  not_first new s y a made h = s.idle y.call (record { accepted = y; named = every_among (λ (w : Waiting). call_named (entries old) w.call ≡ Some w) y (waiting (entries old)) a (accepted c old h).waits; made_in = made }) a

  first_followed : (new : List Line) → IsFollowed c (new ++ old) → IsFollowed c old
  first_followed [] h = h
  first_followed (x ∷ xs) h = first_followed xs h.1

  pub moment : (new : List Line) → Since c old e f css new → OnlyMends c (new ++ old) e f css
  moment new s = record { past = s.past; started = started_since new s; inside = s.inside; no_plain = s.no_plain; waits = waits; mend_site = s.mend_site; at_sync = s.at_sync }
    where
      waits : (d : CallId) (q : IsCallIn (entries (new ++ old)) e d) → Among q.accepted (waiting (entries (new ++ old))) → IsMendCall q.accepted.words
      waits d q a = over (waits_since new old q.accepted s.mends a)
        where
          over : Among q.accepted (waiting (entries old)) ⊎ IsMendCall q.accepted.words → IsMendCall q.accepted.words
          over (inl k) = absurd (not_first new s q.accepted k q.made_in (first_followed new s.past.followed))
          over (inr k) = k

  -- ---- a mend that waits has begun since ----

  -- at first one version was kept, or a mend had been refused for good
  abbrev pub MayHaveBegun : Type 0
  MayHaveBegun = (length (kept_in c (entries old) e f) ≡ 1) ⊎ (has_lost_mend (entries old) e f ≡ true)

  lost_since : (new : List Line) → has_lost_mend (entries old) e f ≡ true → has_lost_mend (entries (new ++ old)) e f ≡ true
  lost_since [] h = h
  lost_since (x ∷ xs) h = lost_told e f x.number x.told (entries (xs ++ old)) (lost_since xs h)

  accepted_known : (x : Line) (xs : List Line) → Since c old e f css (x ∷ xs) → MayHaveBegun → (s process : ℕ) (id : CallId) (words : Call) → x.told ≡ Shown (says.Accept s process id words) → words ≡ call.Mend f → epoch_of (entries (xs ++ old)) s ≡ Some e → s ≡ css → HasKnown c (xs ++ old) e f css
  accepted_known x xs g fit s process id words is are inside site = subst (λ (i : ℕ). HasKnown c t e f i) site (by_fit fit)
    where
      t : List Line
      t = xs ++ old

      row : MayTell c t (Shown (says.Accept s process id (call.Mend f)))
      row = subst (λ (y : Call). MayTell c t (Shown (says.Accept s process id y))) are (subst (MayTell c t) is g.past.followed.0)

      may : MayMend c (entries t) s process id f
      may = row.row

      is_epoch : may.epoch ≡ e
      is_epoch = some_same may.epoch e (sym may.inside ∙ inside)

      by_fit : MayHaveBegun → HasKnown c t e f s
      by_fit (inl single) = wanted_known c t e f s (since_before x xs g).past (single_since xs (since_before x xs g) single) (subst (λ (y : EpochId). is_mend_wanted (history c (entries t)) (tree_of c y f.group (entries t)) s f ≡ true) is_epoch may.wanted)
      by_fit (inr lost) = absurd (true_false (sym (lost_since xs lost) ∙ subst (λ (y : EpochId). has_lost_mend (entries t) y f ≡ false) is_epoch may.unrefused))

  -- it waited before, or it is accepted now
  now_or_before : (n : ℕ) (z : Told) (now : Trace) (y : Waiting) → Among y (waiting (onto_entries n z now)) → Among y (waiting now) ⊎ ((s : ℕ) × (process : ℕ) × (id : CallId) × (words : Call) × (z ≡ Shown (says.Accept s process id words)) × (y ≡ accepted_as now s process id words))
  now_or_before n (Shown (says.Accept s process id words)) now y (inl is) = inr (s, process, id, words, refl, is)
  now_or_before n (Shown (says.Accept s process id words)) now y (inr a) = inl a
  now_or_before n (Shown (says.Answer s process id reply)) now y a = inl (filtered (λ (w : Waiting). not (same_call w.call id)) y (waiting now) a)
  now_or_before n (Shown (says.Stopped s cause)) now y a = inl (filtered (λ (w : Waiting). not (w.site == s)) y (waiting now) a)
  now_or_before n (Shown r) now y a = inl a
  now_or_before n z now y a = inl a

  pub begun : (new : List Line) → Since c old e f css new → MayHaveBegun → (y : Waiting) → Among y (waiting (entries (new ++ old))) → y.epoch ≡ Some e → y.words ≡ call.Mend f → HasKnown c (new ++ old) e f css
  begun [] s fit y a made words = absurd (not_first [] s y a made s.past.followed)
  begun (x ∷ xs) s fit y a made words = known_on c (xs ++ old) e f css (moment xs (since_before x xs s)) (over (now_or_before x.number x.told (entries (xs ++ old)) y a) (λ k. begun xs (since_before x xs s) fit y k made words)) x s.past
    where
      over : Among y (waiting (entries (xs ++ old))) ⊎ ((z : ℕ) × (process : ℕ) × (id : CallId) × (ws : Call) × (x.told ≡ Shown (says.Accept z process id ws)) × (y ≡ accepted_as (entries (xs ++ old)) z process id ws)) → (Among y (waiting (entries (xs ++ old))) → HasKnown c (xs ++ old) e f css) → HasKnown c (xs ++ old) e f css
      over (inl k) later = later k
      over (inr (z, process, id, ws, told, is)) later = accepted_known x xs s fit z process id ws told (sym (ap (λ (w : Waiting). w.words) is) ∙ words) (sym (ap (λ (w : Waiting). w.epoch) is) ∙ made)
          (sym (ap (λ (w : Waiting). w.site) is) ∙ s.mend_site y.call y (every_among (λ (w : Waiting). call_named (entries (x ∷ xs ++ old)) w.call ≡ Some w) y (waiting (entries (x ∷ xs ++ old))) a (accepted c (x ∷ xs ++ old) s.past.followed).waits) made words)

  pub known_later : (more new : List Line) → Since c old e f css (more ++ new) → HasKnown c (new ++ old) e f css → HasKnown c ((more ++ new) ++ old) e f css
  known_later [] new s h = h
  known_later (x ∷ xs) new s h = known_on c ((xs ++ new) ++ old) e f css (moment (xs ++ new) (since_before x (xs ++ new) s)) (known_later xs new (since_before x (xs ++ new) s) h) x s.past
