-- What each event keeps.
use Rattle.std.proofs.Common.{◌≡◌, ◌≢◌, ℕ, zero, suc, ◌+◌, ◌-◌, ◌≤◌, ◌<◌, max, Bool, true, false, cond, ◌&&◌, not, List, [], ◌∷◌, Option, Some, None, Result, Ok, Err, replicate, refl, sym, ◌∙◌, ap, subst, arith, ⊎_elim, nat_lt}
use Rattle.std.proofs.lemmas.Bool.{cases_eq, cases_lt}
use Rattle.std.proofs.lemmas.Bool.Decides.{nat_tests}
use Rattle.std.specs.List.{filter}
use Rattle.std.specs.Result.{IfOk, result_unwrap_or}
use Rattle.locus_ids.specs.Sizes.{sites_max}
use Rattle.locus_ids.specs.declared.ids.Stamp.{Stamp}
use Rattle.version_vector.specs.Counters.{part, raised, all_le}
use Rattle.version_vector.proofs.Counting.{part-joined, part-raised_same, part-raised_other, raised_up, AllLe-from_test}
use Rattle.commit_graph.specs.declared.history.Version.{Version}
use Rattle.commit_graph.specs.Versions.{same_stamp, is_stamp_below, is_in, is_ancestor}
use Rattle.commit_graph.proofs.Names.{same_stamp_refl, same_stamp_eq}
use Rattle.conflict_flags.specs.declared.held.Held.{Held}
use Rattle.conflict_flags.specs.declared.events.Event.{Event}
use Rattle.conflict_flags.specs.declared.events.Event.TheVariants.{Commit, Adopt, Resolve}
use Rattle.conflict_flags.specs.declared.table.TableFault.{TableFault}
use Rattle.conflict_flags.specs.Written.{zeros, joined_all, written, NoneTwice, Numbered, made_at}
use Rattle.conflict_flags.specs.Copies.{is_maximal, tops, with_held, by_stamp, maxima, stamps_of}
use Rattle.conflict_flags.specs.Table.{Table, the_file, copy_at, copy_of, put, present, takes, taken, is_site, grown, counted, first, committed, adopted, resolved, stepped, happens, start, run}
use Rattle.conflict_flags.proofs.Numbers.{joined_bound, written_low, last_in}
use Rattle.conflict_flags.proofs.Vectors.{IsOwn}
use Rattle.conflict_flags.proofs.Ancestors.{Each, Counted, Counts, Named, place, named, ancestor-within, written_here, written_there, in_here, in_there, in_older, not_newest, part-zeros, true_or_false}

-- a copy is of a version of the history, and has its written vector
pub record IsTrueCopy (h : List Version) (c : Held) : Type 0 where
  pub there : is_in h the_file c.stamp ≡ true
  pub vector : (t : ℕ) → part c.vector t ≡ part (written h the_file c.stamp) t

-- the copy of the site that made the version covers it
pub record Covers (copies : List (Option Held)) (a : Stamp) : Type 0 where
  pub copy : Held
  pub held : copy_at copies (place a) ≡ Some copy
  pub covered : a.n ≤ part copy.vector (place a)

-- what holds after every list of events
pub record Good (w : Table) : Type 0 where
  pub count : Counted the_file w.history
  pub once : NoneTwice w.history
  pub numbers : Numbered w.history
  pub own : Each IsOwn w.history
  pub copies : (at : ℕ) (c : Held) → copy_at w.copies at ≡ Some c → IsTrueCopy w.history c
  pub last : (a : Stamp) → is_in w.history the_file a ≡ true → Covers w.copies a

copy_at-put_same : (cs : List (Option Held)) (s : ℕ) (c : Held) → copy_at (put cs s c) s ≡ Some c
copy_at-put_same [] zero c = refl
copy_at-put_same [] (suc s) c = copy_at-put_same [] s c
copy_at-put_same (d ∷ cs) zero c = refl
copy_at-put_same (d ∷ cs) (suc s) c = copy_at-put_same cs s c

copy_at-put_other : (cs : List (Option Held)) (s : ℕ) (c : Held) (t : ℕ) → t ≢ s → copy_at (put cs s c) t ≡ copy_at cs t
copy_at-put_other [] zero c zero h = absurd (h refl)
copy_at-put_other [] zero c (suc t) h = refl
copy_at-put_other [] (suc s) c zero h = refl
copy_at-put_other [] (suc s) c (suc t) h = copy_at-put_other [] s c t (λ e. h (ap suc e))
copy_at-put_other (d ∷ cs) zero c zero h = absurd (h refl)
copy_at-put_other (d ∷ cs) zero c (suc t) h = refl
copy_at-put_other (d ∷ cs) (suc s) c zero h = refl
copy_at-put_other (d ∷ cs) (suc s) c (suc t) h = copy_at-put_other cs s c t (λ e. h (ap suc e))

some_eq : {c d : Held} → ◌≡◌ {A = Option Held} (Some c) (Some d) → c ≡ d
some_eq e = cc

none_not_some : {c : Held} → ◌≡◌ {A = Option Held} None (Some c) → ⊥
none_not_some e = cc

-- a true copy stays one when a new version comes
pub older_copy : (v : Version) (h : List Version) (c : Held) → v.file ≡ the_file → is_in h the_file v.stamp ≡ false → IsTrueCopy h c → IsTrueCopy (v ∷ h) c
older_copy v h c mine new k = record {
  there = in_older the_file v h c.stamp k.there;
  vector = λ t. k.vector t ∙ sym (ap (λ (u : List ℕ). part u t) (written_there the_file v h c.stamp mine (not_newest the_file v.stamp c.stamp h new k.there)));
}

pub raised_alike : (v u : List ℕ) (at : ℕ) → ((t : ℕ) → part v t ≡ part u t) → (t : ℕ) → part (raised v at) t ≡ part (raised u at) t
raised_alike v u at h t =
    ⊎_elim
    (λ (e : t ≡ at). rw e (part-raised_same v at ∙ (ap (λ (n : ℕ). n + 1) (h at) ∙ sym (part-raised_same u at))))
    (λ (e : t ≢ at). part-raised_other v at t e ∙ (h t ∙ sym (part-raised_other u at t e)))
    (cases_eq t at)

-- the other commits stay covered
module _ (h : List Version) where
  older_covered : (copies : List (Option Held)) (at : ℕ) (new : Held) (v : List ℕ) → ((t : ℕ) → part v t ≤ part new.vector t) → ((a : Stamp) → is_in h the_file a ≡ true → Covers copies a) →
      ((a : Stamp) → is_in h the_file a ≡ true → place a ≡ at → a.n ≤ part v at) → (a : Stamp) → is_in h the_file a ≡ true → Covers (put copies at new) a
  older_covered copies at new v up last covers a e = ⊎_elim
      (λ (ts : place a ≡ at). record {
        copy = new;
        held = subst (λ (x : ℕ). copy_at (put copies at new) x ≡ Some new) (sym ts) (copy_at-put_same copies at new);
        covered = let le : a.n ≤ part v at = covers a e ts in let grows : part v (place a) ≤ part new.vector (place a) = up (place a) in let here : part v (place a) ≡ part v at = ap (part v) ts in omega arith;
      })
      (λ (ts : place a ≢ at). let k = last a e in record {
        copy = k.copy;
        held = copy_at-put_other copies at new (place a) ts ∙ k.held;
        covered = k.covered;
      })
      (cases_eq (place a) at)

-- a new version on parents whose written vectors join to v keeps it all, where v covers the site's own commits
grown_good : (w : Table) (site : ℕ) (parents : List Stamp) (v : List ℕ) → 1 ≤ site → site ≤ sites_max → Good w →
    Each (λ p. is_in w.history the_file p ≡ true) parents →
    ((t : ℕ) → part v t ≡ part (joined_all (written w.history the_file) parents) t) →
    ((a : Stamp) → is_in w.history the_file a ≡ true → place a ≡ site - 1 → a.n ≤ part v (site - 1)) →
    Good (grown w site parents v)
grown_good w site parents v low high good stand joins covers =
    let at : ℕ = site - 1 in
    let stamp : Stamp = record { site = site; n = part v at + 1 } in
    let new : Held = record { site = site; stamp = stamp; vector = raised v at } in
    let node : Version = record { file = the_file; site = site; stamp = stamp; parents = parents; content = [] } in
    let is_fresh : is_in w.history the_file stamp ≡ false = ⊎_elim
    (λ (e : is_in w.history the_file stamp ≡ true). absurd (let le : part v at + 1 ≤ part v at = covers stamp e refl in omega arith))
    (λ (e : is_in w.history the_file stamp ≡ false). e)
    (true_or_false (is_in w.history the_file stamp)) in
    let made : ℕ = made_at w.history the_file site in
    let below : part (joined_all (written w.history the_file) parents) at ≤ made = joined_bound (written w.history the_file) made at (λ p. written_low the_file w.history good.count p site low) parents in
    let counts_all : part v at ≡ made = ⊎_elim
    (λ (e : 0 < made). let above : made ≤ part v at = covers (record { site = site; n = made }) (last_in the_file w.history good.count good.numbers site e) refl in omega (arith, joins at))
    (λ (e : made ≤ 0). omega (arith, joins at))
    (cases_lt 0 made) in
    let counts : Counts the_file node w.history = record { mine = refl; low = low; stand = stand; count = ap (λ (n : ℕ). n + 1) (joins at) } in
    let new_true : IsTrueCopy (node ∷ w.history) new = record {
      there = in_here the_file node w.history stamp refl (same_stamp_refl stamp);
      vector = λ t. raised_alike v (joined_all (written w.history the_file) parents) at joins t ∙ sym (ap (λ (u : List ℕ). part u t) (written_here the_file node w.history stamp counts (same_stamp_refl stamp)));
    } in
    record {
      count = (counts, good.count);
      once = (is_fresh, good.once);
      numbers = (ap (λ (n : ℕ). n + 1) counts_all, good.numbers);
      own = (record { same = refl; most = high }, good.own);
      copies = λ t c e. ⊎_elim
          (λ (ts : t ≡ at). subst (IsTrueCopy (node ∷ w.history)) (some_eq (sym (copy_at-put_same w.copies at new) ∙ subst (λ (x : ℕ). copy_at (put w.copies at new) x ≡ Some c) ts e)) new_true)
          (λ (ts : t ≢ at). older_copy node w.history c refl is_fresh (good.copies t c (sym (copy_at-put_other w.copies at new t ts) ∙ e)))
          (cases_eq t at);
      last = λ a e. ⊎_elim
          (λ (new_one : same_stamp stamp a ≡ true). subst (Covers (put w.copies at new)) (same_stamp_eq stamp a new_one)
          (record { copy = new; held = copy_at-put_same w.copies at new; covered = omega (arith, part-raised_same v at) }))
          (λ (new_one : same_stamp stamp a ≡ false). older_covered w.history w.copies at new v (raised_up v at) good.last covers a (sym (in_there the_file node w.history a refl new_one) ∙ e))
          (true_or_false (same_stamp stamp a));
    }

abbrev IsGood : Result Table TableFault → Type 0
IsGood r = IfOk r Good

either : (b : Bool) (x y : Result Table TableFault) → (b ≡ true → IsGood x) → IsGood y → IsGood (cond b x y)
either true x y f g = f refl
either false x y f g = g

site_low : (site : ℕ) → is_site site ≡ true → 1 ≤ site
site_low site h = grind (arith, nat_tests)

site_high : (site : ℕ) → is_site site ≡ true → site ≤ sites_max
site_high site h = grind (arith, nat_tests)

counted_good : (w : Table) (site : ℕ) (parents : List Stamp) (v : List ℕ) → Good w →
    Each (λ p. is_in w.history the_file p ≡ true) parents →
    ((t : ℕ) → part v t ≡ part (joined_all (written w.history the_file) parents) t) →
    ((a : Stamp) → is_in w.history the_file a ≡ true → place a ≡ site - 1 → a.n ≤ part v (site - 1)) →
    IsGood (counted w site parents v)
counted_good w site parents v good stand joins covers = either (is_site site) _ _
    (λ low. either (nat_lt (part v (site - 1)) 4294967295) _ _ (λ e. grown_good w site parents v (site_low site low) (site_high site low) good stand joins covers) tt)
    tt

first_good : (w : Table) (site : ℕ) (h : List Version) → w.history ≡ h → Good w → IsGood (first w site h)
first_good w site [] e good = counted_good w site [] zeros good tt (λ t. refl) (λ a there s. absurd (let gone : is_in [] the_file a ≡ true = subst (λ (h : List Version). is_in h the_file a ≡ true) e there in cc))
first_good w site (v ∷ older) e good = tt

-- the site's own copy covers its own commits
own_covers : (w : Table) (at : ℕ) (c : Held) → Good w → copy_at w.copies at ≡ Some c → (a : Stamp) → is_in w.history the_file a ≡ true → place a ≡ at → a.n ≤ part c.vector at
own_covers w at c good e a there s =
    let k = good.last a there in
    let same : k.copy ≡ c = some_eq (sym k.held ∙ (ap (copy_at w.copies) s ∙ e)) in
    let here : part k.copy.vector (place a) ≡ part c.vector at = ap (λ (d : Held). part d.vector (place a)) same ∙ ap (part c.vector) s in
    let le : a.n ≤ part k.copy.vector (place a) = k.covered in omega arith

committed_good : (w : Table) (site : ℕ) (o : Option Held) → copy_of w site ≡ o → Good w → IsGood (committed w site o)
committed_good w site None e good = first_good w site w.history refl good
committed_good w site (Some c) e good = counted_good w site (c.stamp ∷ []) c.vector good
    ((good.copies (site - 1) c e).there, tt)
    (λ t. let k : part c.vector t ≡ part (written w.history the_file c.stamp) t = (good.copies (site - 1) c e).vector t in omega (arith, part-joined (written w.history the_file c.stamp) zeros t, part-zeros sites_max t))
    (own_covers w (site - 1) c good e)

takes_covers : (c : Held) (o : Option Held) (d : Held) → o ≡ Some d → takes c o ≡ true → (t : ℕ) → part d.vector t ≤ part c.vector t
takes_covers c None d e h t = absurd (none_not_some e)
takes_covers c (Some b) d e h t = subst (λ (x : Held). part x.vector t ≤ part c.vector t) (some_eq e) ((AllLe-from_test b.vector c.vector (and_left (all_le b.vector c.vector) (not (all_le c.vector b.vector)) h)).each t) where
  and_left : (x y : Bool) → (x && y) ≡ true → x ≡ true
  and_left true y h = refl
  and_left false y h = h

taken_good : (w : Table) (site from : ℕ) (c : Held) → Good w → copy_of w from ≡ Some c → takes c (copy_of w site) ≡ true → Good (taken w site c)
taken_good w site from c good e above =
    let at : ℕ = site - 1 in
    let own : Held = record { site = site; stamp = c.stamp; vector = c.vector } in
    let is_true : IsTrueCopy w.history own = (let k : IsTrueCopy w.history c = good.copies (from - 1) c e in record { there = k.there; vector = k.vector }) in
    record {
      count = good.count;
      once = good.once;
      numbers = good.numbers;
      own = good.own;
      copies = λ t d f. ⊎_elim
          (λ (ts : t ≡ at). subst (IsTrueCopy w.history) (some_eq (sym (copy_at-put_same w.copies at own) ∙ subst (λ (x : ℕ). copy_at (put w.copies at own) x ≡ Some d) ts f)) is_true)
          (λ (ts : t ≢ at). good.copies t d (sym (copy_at-put_other w.copies at own t ts) ∙ f))
          (cases_eq t at);
      last = older_covered w.history w.copies at own c.vector (λ t. omega arith) good.last
          (λ a there s. let k = good.last a there in
          let le : a.n ≤ part k.copy.vector (place a) = k.covered in
          let up : part k.copy.vector at ≤ part c.vector at = takes_covers c (copy_of w site) k.copy (sym (ap (copy_at w.copies) s) ∙ k.held) above at in
          let here : part k.copy.vector (place a) ≡ part k.copy.vector at = ap (part k.copy.vector) s in omega arith);
    }

chosen : (b : Bool) (u w : Table) → (b ≡ true → Good u) → Good w → Good (cond b u w)
chosen true u w f g = f refl
chosen false u w f g = g

adopted_good : (w : Table) (site from : ℕ) (o : Option Held) → copy_of w from ≡ o → Good w → IsGood (adopted w site o)
adopted_good w site from None e good = tt
adopted_good w site from (Some c) e good = chosen (takes c (copy_of w site)) _ w (taken_good w site from c good e) good

-- what all copies meet, those that are present meet, and a filter of them, and their order by stamp
each_present : (P : Held → Type 0) (cs : List (Option Held)) → ((s : ℕ) (c : Held) → copy_at cs s ≡ Some c → P c) → Each P (present cs)
each_present P [] h = tt
each_present P (None ∷ cs) h = each_present P cs (λ s. h (suc s))
each_present P (Some c ∷ cs) h = (h 0 c refl, each_present P cs (λ s. h (suc s)))

each_filter : (P : Held → Type 0) (p : Held → Bool) (cs : List Held) → Each P cs → Each P (filter p cs)
each_filter P p [] k = tt
each_filter P p (c ∷ cs) k = ⊎_elim
    (λ (e : p c ≡ true). rw e (k.0, each_filter P p cs k.1))
    (λ (e : p c ≡ false). rw e (each_filter P p cs k.1))
    (true_or_false (p c))

each_with : (P : Held → Type 0) (c : Held) (ds : List Held) → P c → Each P ds → Each P (with_held c ds)
each_with P c [] p k = (p, tt)
each_with P c (d ∷ ds) p k = ⊎_elim
    (λ (e : is_stamp_below c.stamp d.stamp ≡ true). rw e (p, k))
    (λ (e : is_stamp_below c.stamp d.stamp ≡ false). ⊎_elim
    (λ (f : same_stamp c.stamp d.stamp ≡ true). rw (e, f) k)
    (λ (f : same_stamp c.stamp d.stamp ≡ false). rw (e, f) (k.0, each_with P c ds p k.1))
    (true_or_false (same_stamp c.stamp d.stamp)))
    (true_or_false (is_stamp_below c.stamp d.stamp))

each_by_stamp : (P : Held → Type 0) (cs : List Held) → Each P cs → Each P (by_stamp cs)
each_by_stamp P [] k = tt
each_by_stamp P (c ∷ cs) k = each_with P c (by_stamp cs) k.0 (each_by_stamp P cs k.1)

each_stamp : (Q : Stamp → Type 0) (cs : List Held) → Each (λ c. Q c.stamp) cs → Each Q (stamps_of cs)
each_stamp Q [] k = tt
each_stamp Q (c ∷ cs) k = (k.0, each_stamp Q cs k.1)

each_there : (h : List Version) (cs : List Held) → Each (IsTrueCopy h) cs → Each (λ c. is_in h the_file c.stamp ≡ true) cs
each_there h [] k = tt
each_there h (c ∷ cs) k = (k.0.there, each_there h cs k.1)

-- a copy that comes in joins its vector, whether its version is there or not
joined_with : (g : Stamp → List ℕ) (c : Held) (ds : List Held) (t : ℕ) → part (joined_all g (stamps_of (with_held c ds))) t ≡ max (part (g c.stamp) t) (part (joined_all g (stamps_of ds)) t)
joined_with g c [] t = part-joined (g c.stamp) zeros t
joined_with g c (d ∷ ds) t = ⊎_elim
    (λ (e : is_stamp_below c.stamp d.stamp ≡ true). rw e (part-joined (g c.stamp) (joined_all g (stamps_of (d ∷ ds))) t))
    (λ (e : is_stamp_below c.stamp d.stamp ≡ false). ⊎_elim
    (λ (f : same_stamp c.stamp d.stamp ≡ true). rw (e, f)
    (let same : part (g c.stamp) t ≡ part (g d.stamp) t = ap (λ (s : Stamp). part (g s) t) (same_stamp_eq c.stamp d.stamp f) in omega (arith, part-joined (g d.stamp) (joined_all g (stamps_of ds)) t)))
    (λ (f : same_stamp c.stamp d.stamp ≡ false). rw (e, f)
    (let rest : part (joined_all g (stamps_of (with_held c ds))) t ≡ max (part (g c.stamp) t) (part (joined_all g (stamps_of ds)) t) = joined_with g c ds t in
    omega (arith, part-joined (g d.stamp) (joined_all g (stamps_of (with_held c ds))) t, part-joined (g d.stamp) (joined_all g (stamps_of ds)) t)))
    (true_or_false (same_stamp c.stamp d.stamp)))
    (true_or_false (is_stamp_below c.stamp d.stamp))

-- the vectors of true copies join to what the written ones of their versions join to
joined_copies : (h : List Version) (cs : List Held) → Each (IsTrueCopy h) cs → (t : ℕ) → part (joined_all (λ d. d.vector) cs) t ≡ part (joined_all (written h the_file) (stamps_of (by_stamp cs))) t
joined_copies h [] k t = refl
joined_copies h (c ∷ cs) k t =
    let here : part c.vector t ≡ part (written h the_file c.stamp) t = k.0.vector t in
    let there : part (joined_all (λ d. d.vector) cs) t ≡ part (joined_all (written h the_file) (stamps_of (by_stamp cs))) t = joined_copies h cs k.1 t in
    omega (arith, part-joined c.vector (joined_all (λ d. d.vector) cs) t, joined_with (written h the_file) c (by_stamp cs) t)

-- a chosen copy is below the join of the chosen ones
top_covered : (p : Held → Bool) (cs : List (Option Held)) (at : ℕ) (c : Held) → copy_at cs at ≡ Some c → p c ≡ true → (t : ℕ) → part c.vector t ≤ part (joined_all (λ d. d.vector) (filter p (present cs))) t
top_covered p [] at c e f t = absurd (none_not_some e)
top_covered p (None ∷ cs) zero c e f t = absurd (none_not_some e)
top_covered p (None ∷ cs) (suc at) c e f t = top_covered p cs at c e f t
top_covered p (Some d ∷ cs) zero c e f t =
    let same : p d ≡ true = ap p (some_eq e) ∙ f in
    let vector : part d.vector t ≡ part c.vector t = ap (λ (x : Held). part x.vector t) (some_eq e) in
    rw same (omega (arith, part-joined d.vector (joined_all (λ x. x.vector) (filter p (present cs))) t))
top_covered p (Some d ∷ cs) (suc at) c e f t =
    let rest : part c.vector t ≤ part (joined_all (λ x. x.vector) (filter p (present cs))) t = top_covered p cs at c e f t in ⊎_elim
    (λ (g : p d ≡ true). rw g (omega (arith, part-joined d.vector (joined_all (λ x. x.vector) (filter p (present cs))) t)))
    (λ (g : p d ≡ false). rw g rest)
    (true_or_false (p d))

resolved_good : (w : Table) (site : ℕ) (o : Option Held) → copy_of w site ≡ o → Good w → IsGood (resolved w site o)
resolved_good w site None e good = tt
resolved_good w site (Some c) e good =
    let all : List Held = present w.copies in
    let each : Each (IsTrueCopy w.history) (tops all) = each_filter (IsTrueCopy w.history) (is_maximal all) all (each_present (IsTrueCopy w.history) w.copies good.copies) in
    let stand : Each (λ p. is_in w.history the_file p ≡ true) (stamps_of (maxima all)) =
    each_stamp (λ p. is_in w.history the_file p ≡ true) (maxima all) (each_there w.history (maxima all) (each_by_stamp (IsTrueCopy w.history) (tops all) each)) in
    either (is_maximal all c) _ _
    (λ f. counted_good w site (stamps_of (maxima all)) (joined_all (λ d. d.vector) (tops all)) good stand (joined_copies w.history (tops all) each)
    (λ a there s. let le : a.n ≤ part c.vector (site - 1) = own_covers w (site - 1) c good e a there s in
    let up : part c.vector (site - 1) ≤ part (joined_all (λ d. d.vector) (tops all)) (site - 1) = top_covered (is_maximal all) w.copies (site - 1) c e f (site - 1) in omega arith))
    tt

stepped_good : (w : Table) (e : Event) → Good w → IsGood (stepped w e)
stepped_good w (Commit site) good = committed_good w site (copy_of w site) refl good
stepped_good w (Adopt site from) good = adopted_good w site from (copy_of w from) refl good
stepped_good w (Resolve site) good = resolved_good w site (copy_of w site) refl good

kept_good : (r : Result Table TableFault) (w : Table) → IsGood r → Good w → Good (result_unwrap_or r w)
kept_good (Ok u) w h good = h
kept_good (Err f) w h good = good

pub happens_good : (w : Table) (e : Event) → Good w → Good (happens w e)
happens_good w e good = kept_good (stepped w e) w (stepped_good w e good) good

no_copies : (n s : ℕ) (c : Held) → copy_at (replicate n None) s ≡ Some c → ⊥
no_copies zero s c e = none_not_some e
no_copies (suc n) zero c e = none_not_some e
no_copies (suc n) (suc s) c e = no_copies n s c e

pub start_good : Good start
start_good = record {
  count = tt;
  once = tt;
  numbers = tt;
  own = tt;
  copies = λ s c e. absurd (no_copies sites_max s c e);
  last = λ a e. absurd (cc);
}

pub run_good : (es : List Event) (w : Table) → Good w → Good (run es w)
run_good [] w good = good
run_good (e ∷ es) w good = run_good es (happens w e) (happens_good w e good)

-- a site's copy has the site's versions among its ancestors
pub own_ancestors : (w : Table) → Good w → (a : Stamp) (c : Held) → is_in w.history the_file a ≡ true → copy_of w a.site ≡ Some c → is_ancestor w.history the_file a c.stamp ≡ true
own_ancestors w good a c there e =
    let le : a.n ≤ part c.vector (place a) = own_covers w (place a) c good e a there refl in
    let same : part c.vector (place a) ≡ part (written w.history the_file c.stamp) (place a) = (good.copies (place a) c e).vector (place a) in
    let name : Named a = named the_file w.history good.count a there in
    ancestor-within the_file w.history good.count a c.stamp name.low name.pos (omega arith)
