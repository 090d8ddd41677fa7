-- Lines that change scripts or circuits, and lines after which nothing happens.
use Rattle.std.proofs.Common.{◌≡◌, ◌≢◌, ℕ, ◌+◌, ◌<◌, ◌≤◌, List, [], length, set, Option, Some, None, Bool, true, false, not, inl, inr, refl, sym, ap, subst, ◌∙◌}
use Rattle.std.specs.Option.{is_some}
use Rattle.std.specs.Prelude.{Result, Ok, Err, IsErr, IsErrAnd, OnOk, IfErr}
use Rattle.std.specs.List.{list_any}
use Rattle.std.proofs.lemmas.List.{append-nil}
use Rattle.keyed_tables.proofs.Searched.{put_rising}
use Rattle.locus_ids.specs.declared.config.Config.{Config}
use Rattle.schedule_lines.specs.declared.line.Line.{Line as LineWords}
use Rattle.schedule_lines.specs.declared.line.Line.TheVariants as line
use Rattle.the_run.specs.Disks.{Armed}
use Rattle.the_run.specs.Worlds.{World, Limit, CutCircuit, script_of, armed_site, is_cut, is_between, arms}
use Rattle.the_run.specs.Runs.{act, entries_of_run}
use Rattle.circuits.specs.Circuits.{is_cut_among}
use Rattle.site_place.specs.Places.{PlaceState}
use Rattle.run_book.specs.declared.fault.Passed.{Passed}
use Rattle.run_book.specs.Writings.{written_of}
use Rattle.run_book.specs.Ledgers.{Ledger, Keeps, limit_in}
use Rattle.world.specs.States.{WorldState, state_at, place_of}
use Rattle.world.specs.declared.fault.WorldFault.{WorldFault}
use Rattle.site_place.specs.declared.fault.StartFault.{StartFault}
use Rattle.site_place.specs.declared.fault.StartFault.TheVariants as start
use Rattle.world.specs.Faults.{MayCome, fault_of_start}
use Rattle.world.specs.Shown.{Taken, all_taken, IsSite, ShowsSites, Shows, Follows, FollowsWithin, Answers}
use Rattle.world.proofs.Tables.{split, put_here, put_there, state_put, state_other, state_none}
use Rattle.world.proofs.Events.{own_along}
use Rattle.world.proofs.Over.{ended_shown, act_over}

-- ---- scripts ----

module _ (a : Armed) (s at : ℕ) (x y : WorldState) (own : a.site ≡ s) (is : s ≡ at + 1) (ec : y.config ≡ x.config) (ek : y.circuits ≡ x.circuits) (eb : y.book ≡ x.book) where
  armed_book : (taken : Taken) (w : World) → Keeps taken.bytes w x.book → Keeps taken.bytes (arms a w) y.book
  armed_book taken w k = subst (λ (b : Ledger). Keeps taken.bytes (arms a w) b) (sym eb) (record { written = k.written; counts = k.counts; over = k.over; whole = λ e. record { post = (k.whole e).post; text = (k.whole e).text } })

  other_script : (w : World) (t : ℕ) → t ≢ s → script_of (arms a w) t ≡ script_of w t
  other_script w t ne = put_there armed_site a t w.armed (λ f. ne (sym f ∙ own))

  pub arm_follows : (p : PlaceState) → at < length x.places → state_at x.places s ≡ Some p → y.places ≡ set x.places at (record p { armed = Some a }) → Follows (λ c w. arms a w) x y
  arm_follows p l found ep c taken w sh = record { config = ec ∙ sh.config; writing = ap (λ (b : Ledger). b.writing) eb ∙ sh.writing; book = armed_book taken w sh.book; sites = λ e. armed_sites w (sh.sites e) } where
    here : state_at y.places s ≡ Some (record p { armed = Some a })
    here = ap (λ (xs : List PlaceState). state_at xs s) ep ∙ state_put x.places s at (record p { armed = Some a }) is l

    there : (t : ℕ) → t ≢ s → state_at y.places t ≡ state_at x.places t
    there t ne = ap (λ (xs : List PlaceState). state_at xs t) ep ∙ state_other x.places s t at (record p { armed = Some a }) is ne

    same_place : (t : ℕ) → place_of (state_at x.places t) ≡ place_of (state_at y.places t)
    same_place t = split t s
        (λ f. ap (λ i. place_of (state_at x.places i)) f ∙ (ap place_of found ∙ sym (ap (λ i. place_of (state_at y.places i)) f ∙ ap place_of here)))
        (λ f. ap place_of (sym (there t f)))

    armed_sites : (v : World) → ShowsSites v x → ShowsSites (arms a v) y
    armed_sites v k = record {
      places = λ t m n. k.places t m n ∙ same_place t;
      scripts = λ t q e. split t s
          (λ f. let g : Some (record p { armed = Some a }) ≡ Some q = sym (ap (λ i. state_at y.places i) f ∙ here) ∙ e in let h : record p { armed = Some a } ≡ q = cc in ap (script_of (arms a v)) f ∙ (put_here armed_site a s v.armed own ∙ ap (λ (z : PlaceState). z.armed) h))
          (λ f. other_script v t f ∙ k.scripts t q (sym (there t f) ∙ e));
      own = λ t q e. own_along x.config y.config t q ec (split t s
          (λ f. let g : Some (record p { armed = Some a }) ≡ Some q = sym (ap (λ i. state_at y.places i) f ∙ here) ∙ e in let h : record p { armed = Some a } ≡ q = cc in subst (λ (z : PlaceState). IsSite x.config t z) h (let i = k.own s p found in record { site = i.site ∙ sym f; config = i.config }))
          (λ f. k.own t q (sym (there t f) ∙ e)));
      table = put_rising armed_site a v.armed k.table;
      circuits = k.circuits ∙ sym ek;
    }

  -- the site isn't there
  pub arm_absent : length x.places ≤ at → y.places ≡ x.places → Follows (λ c w. arms a w) x y
  arm_absent l ep c taken w sh = record { config = ec ∙ sh.config; writing = ap (λ (b : Ledger). b.writing) eb ∙ sh.writing; book = armed_book taken w sh.book; sites = λ e. armed_sites w (sh.sites e) } where
    same : (t : ℕ) → state_at y.places t ≡ state_at x.places t
    same t = ap (λ (xs : List PlaceState). state_at xs t) ep

    armed_sites : (v : World) → ShowsSites v x → ShowsSites (arms a v) y
    armed_sites v k = record {
      places = λ t m n. k.places t m n ∙ ap place_of (sym (same t));
      scripts = λ t q e. split t s
          (λ f. absurd (let g : None ≡ Some q = sym (ap (λ i. state_at x.places i) f ∙ state_none x.places s at is l) ∙ (sym (same t) ∙ e) in cc))
          (λ f. other_script v t f ∙ k.scripts t q (sym (same t) ∙ e));
      own = λ t q e. own_along x.config y.config t q ec (k.own t q (sym (same t) ∙ e));
      table = put_rising armed_site a v.armed k.table;
      circuits = k.circuits ∙ sym ek;
    }

-- ---- circuits ----

pub cut_answer : (x : WorldState) (a b : ℕ) (r : Bool) → r ≡ is_cut_among x.circuits a b → Answers (λ w. is_cut w a b) x r
cut_answer x a b r e c taken w o sh = ap (list_any (is_between a b)) (sh.sites o).circuits ∙ sym e

pub uncut_answer : (x : WorldState) (a b : ℕ) (r : Bool) → r ≡ is_cut_among x.circuits a b → Answers (λ w. not (is_cut w a b)) x (not r)
uncut_answer x a b r e c taken w o sh = ap not (cut_answer x a b r e c taken w o sh)

pub circuits_follow : (f : List CutCircuit → List CutCircuit) (x y : WorldState) → y.config ≡ x.config → y.places ≡ x.places → y.circuits ≡ f x.circuits → y.book ≡ x.book → FollowsWithin (λ c w. record w { circuits = f w.circuits }) x y
circuits_follow f x y ec ep ek eb c taken w o sh = record {
  config = ec ∙ sh.config;
  writing = ap (λ (b : Ledger). b.writing) eb ∙ sh.writing;
  book = subst (λ (b : Ledger). Keeps taken.bytes (record w { circuits = f w.circuits }) b) (sym eb) (record { written = sh.book.written; counts = sh.book.counts; over = sh.book.over; whole = λ e. record { post = (sh.book.whole o).post; text = (sh.book.whole o).text } });
  sites = λ e. record {
    places = λ s l m. (sh.sites o).places s l m ∙ ap (λ (xs : List PlaceState). place_of (state_at xs s)) (sym ep);
    scripts = λ s p g. (sh.sites o).scripts s p (ap (λ (xs : List PlaceState). state_at xs s) (sym ep) ∙ g);
    own = λ s p g. own_along x.config y.config s p ec ((sh.sites o).own s p (ap (λ (xs : List PlaceState). state_at xs s) (sym ep) ∙ g));
    table = (sh.sites o).table;
    circuits = ap f (sh.sites o).circuits ∙ sym ek;
  };
}

-- ---- a line ----

limit_some : (o : Option Passed) → is_some o ≡ true → (l : Limit) × (limit_in o ≡ Some l)
limit_some None e = absurd (cc)
limit_some (Some q) e = (_, refl)

limit_none : (o : Option Passed) → is_some o ≡ false → limit_in o ≡ None
limit_none None e = refl
limit_none (Some q) e = absurd (cc)

-- a limit was passed before
pub step_over : (n : ℕ) (line : LineWords) (x : WorldState) (o : Option Passed) → limit_in o ≡ x.book.over → is_some o ≡ true → Follows (λ c w. act c n line w) x x
step_over n line x o eo is c taken w sh =
    let k = limit_some o is in
    let e : w.over ≡ Some k.0 = sym sh.book.over ∙ (sym eo ∙ k.1) in
    ended_shown c taken w (act c n line w) x k.0 e (act_over c n k.0 line w e) sh

-- no limit was passed before
pub step_within : (f : Config → World → World) (x y : WorldState) (o : Option Passed) → limit_in o ≡ x.book.over → is_some o ≡ false → FollowsWithin f x y → Follows f x y
step_within f x y o eo is h c taken w sh = h c taken w (sym sh.book.over ∙ (sym eo ∙ limit_none o is)) sh

-- where a limit was passed there is no next packet, and otherwise it is as told
pub always : (x : WorldState) (P : World → Type 0) (o : Option Passed) → limit_in o ≡ x.book.over → is_some o ≡ false → ((c : Config) (taken : Taken) (w : World) → w.over ≡ None → Shows c taken w x → P w) → (c : Config) (taken : Taken) (w : World) → Shows c taken w x → P w
always x P o eo is h c taken w sh = h c taken w (sym sh.book.over ∙ (sym eo ∙ limit_none o is)) sh

pub where_over : (x : WorldState) (P : World → Type 0) (o : Option Passed) → limit_in o ≡ x.book.over → is_some o ≡ true → ((w : World) (l : Limit) → w.over ≡ Some l → P w) → (c : Config) (taken : Taken) (w : World) → Shows c taken w x → P w
where_over x P o eo is h c taken w sh = let k = limit_some o is in h w k.0 (sym sh.book.over ∙ (sym eo ∙ k.1))

pub line_is : (n : ℕ) (line x : LineWords) (old new : WorldState) → line ≡ x → FollowsWithin (λ c w. act c n x w) old new → FollowsWithin (λ c w. act c n line w) old new
line_is n line x old new e h = subst (λ (l : LineWords). FollowsWithin (λ c w. act c n l w) old new) (sym e) h

pub line_done : {A B : Type 0} (r : Result A B) (n : ℕ) (line x : LineWords) (old new : WorldState) → line ≡ x → OnOk r (FollowsWithin (λ c w. act c n x w) old new) → OnOk r (FollowsWithin (λ c w. act c n line w) old new)
line_done r n line x old new e h = subst (λ (l : LineWords). OnOk r (FollowsWithin (λ c w. act c n l w) old new)) (sym e) h

-- ---- faults ----

pub any_fault : {T : Type 0} (r : Result T WorldFault) (line x : LineWords) → line ≡ x → ((fault : WorldFault) → MayCome x fault) → IfErr r (MayCome line)
any_fault (Ok done) line x e h = tt
any_fault (Err fault) line x e h = subst (λ (l : LineWords). MayCome l fault) (sym e) (h fault)

-- what holds of the fault that is given on
pub if_given : {T : Type 0} (r : Result T WorldFault) (fault : WorldFault) (line x : LineWords) → line ≡ x → IsErr r × IsErrAnd r (λ e. e ≡ fault) → MayCome x fault → IfErr r (MayCome line)
if_given (Ok done) fault line x e given holds = tt
if_given (Err other) fault line x e given holds = subst (λ (l : LineWords). MayCome l other) (sym e) (subst (λ (f : WorldFault). MayCome x f) (sym given.1) holds)

-- a boot that is refused
pub start_refused : (site : ℕ) (refused : StartFault) → MayCome (line.Boot site) (fault_of_start refused)
start_refused site start.NoMemory = inl refl
start_refused site start.Spent = inr refl

-- ---- the text ----

pub taken_shown : (c : Config) (taken : Taken) (w : World) (x y : WorldState) → y.config ≡ x.config → y.places ≡ x.places → y.circuits ≡ x.circuits → y.book ≡ record x.book { fresh = [] } → Shows c taken w x → Shows c (all_taken taken.writing w) w y
taken_shown c taken w x y ec ep ek eb sh = record {
  config = ec ∙ sh.config;
  writing = ap (λ (b : Ledger). b.writing) eb ∙ sh.writing;
  book = subst (λ (b : Ledger). Keeps (written_of taken.writing (entries_of_run w)) w b) (sym eb) (record { written = ap (λ k. written_of k (entries_of_run w)) sh.writing ∙ sym (append-nil (written_of taken.writing (entries_of_run w))); counts = sh.book.counts; over = sh.book.over; whole = λ e. record { post = (sh.book.whole e).post; text = (sh.book.whole e).text } });
  sites = λ e. record {
    places = λ s l m. (sh.sites e).places s l m ∙ ap (λ (xs : List PlaceState). place_of (state_at xs s)) (sym ep);
    scripts = λ s p g. (sh.sites e).scripts s p (ap (λ (xs : List PlaceState). state_at xs s) (sym ep) ∙ g);
    own = λ s p g. own_along x.config y.config s p ec ((sh.sites e).own s p (ap (λ (xs : List PlaceState). state_at xs s) (sym ep) ∙ g));
    table = (sh.sites e).table;
    circuits = (sh.sites e).circuits ∙ sym ek;
  };
}
