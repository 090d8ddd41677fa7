-- Calls stand by each record that may follow: the records one by one.
use Rattle.std.proofs.Common.{◌≡◌, ℕ, ◌+◌, ◌-◌, ◌==◌, ◌&&◌, ◌≤◌, ◌<◌, inl, inr, not, nat_lt, Bool, true, false, cond, List, [], ◌∷◌, ◌++◌, length, filter, take, Some, None, refl, sym, ap, subst, ◌∙◌, arith}
use Rattle.std.proofs.lemmas.Bool.Decides.{nat_tests}
use Rattle.std.specs.List.{list_any, AllByRecursion}
use Rattle.locus_ids.specs.declared.config.Config.{Config}
use Rattle.locus_ids.specs.declared.ids.CallId.{CallId}
use Rattle.trace_book.specs.Same.{same_call}
use Rattle.trace_book.specs.declared.call.Call.{Call}
use Rattle.trace_book.specs.declared.record.Record.{Record}
use Rattle.trace_book.specs.declared.record.Record.TheVariants as rec
use Rattle.commit_graph.specs.Versions.{same_file}
use Rattle.call_rules.specs.declared.answer.Answer.{Answer}
use Rattle.call_rules.specs.declared.answer.Answer.TheVariants.{Refused}
use Rattle.call_rules.specs.Descriptors.{beginning}
use Rattle.call_rules.specs.Opening.{is_steady}
use Rattle.tree_model.specs.Calls.{version_at}
use Rattle.lawful_trace.specs.Progress.{granted_answer, outcome_answer}
use Rattle.promises.specs.Past.{Past, Site, CallSoFar, Copy, nothing_yet, site_at, epoch_at, kept_in, is_named, table}
use Rattle.promises.specs.After.{after, told_by, change, is_id, is_actor, is_ender, is_freed, begun_call, look_answer, taken_by, with_epoch, held_again}
use Rattle.promises.specs.Rows.{may_follow, may_boot, is_there, waits_at}
use Rattle.past_laws.proofs.Names.{false_true, both_parts, number_eq, call_eq}
use Rattle.past_laws.proofs.CallsLists.{each_more}
use Rattle.past_laws.proofs.SitesSay.{has_number, is_there_in, same_there, own_site, change_twice, part_still, other_site}
use Rattle.row_lists.proofs.ByPlace.{once_more}
use Rattle.audit_laws.specs.Tidy.Calls.{site_of, IsGiven, CallStands, CallsStand}
use Rattle.audit_laws.specs.Tidy.Tidy.{IsTidy}
use Rattle.audit_laws.proofs.Tidy.Sites.{boot_is_new}
use Rattle.audit_laws.proofs.Tidy.Answers.{AnswersOne, answers_one, closed_as, epoch_sites, epoch_calls}
use Rattle.audit_laws.proofs.Tidy.Calls.{Accepts, accepts, Keeps, kept_so, site_changed, Leaves, leaves_answers, calls_moved, calls_changed, calls_kept, calls_same, closed_calls, boot_call, stopped_call}

-- ---- a call more ----

-- a name that was given isn't the next one
given_apart : (s : Site) (id new : CallId) → new.boot ≡ s.boot → new.n ≡ s.accepted + 1 → IsGiven s id → same_call id new ≡ false
given_apart s id new boot n given = at (same_call id new) refl
  where
    off : id.boot ≡ new.boot → id.n ≡ new.n → IsGiven s id → ⊥
    off e f (inl below) = omega (arith, below, e, boot)
    off e f (inr (same, low)) = omega (arith, low, f, n)

    at : (b : Bool) → same_call id new ≡ b → b ≡ false
    at true h = absurd (let e : id ≡ new = call_eq id new h in off (ap (λ (d : CallId). d.boot) e) (ap (λ (d : CallId). d.n) e) given)
    at false h = refl

pub new_apart : (c : Config) (p : Past) (site process : ℕ) (id : CallId) → Accepts c p site process id → CallsStand p.sites p.calls → list_any (is_id id) p.calls ≡ false
new_apart c p site process id a st = none p.calls (each_more (CallStands p.sites) (λ (k : CallSoFar). same_call k.id id ≡ false) apart p.calls st.each)
  where
    none : (ks : List CallSoFar) → AllByRecursion (λ (k : CallSoFar). same_call k.id id ≡ false) ks → list_any (is_id id) ks ≡ false
    none [] h = refl
    none (k ∷ ks) h = rw (h.0) (none ks h.1)

    apart : (k : CallSoFar) → CallStands p.sites k → same_call k.id id ≡ false
    apart k s = at (k.id.site == site) refl
      where
        at : (b : Bool) → (k.id.site == site) ≡ b → same_call k.id id ≡ false
        at true e = given_apart (site_at p site) k.id id a.boot_is a.n_is (subst (λ n. IsGiven (site_at p n) k.id) (number_eq k.id.site site e) s.given)
        at false e = subst (λ n. ((k.id.site == n) && (k.id.boot == id.boot) && (k.id.n == id.n)) ≡ false) (sym a.site_is) (rw e refl)

-- the sites when a call is accepted: one counts one more
abbrev counted : ℕ → Call → Site → Site
counted process words s = record s { accepted = s.accepted + 1; descriptors = filter (λ d. not (is_freed words process d)) s.descriptors }

counted_keeps : (site process : ℕ) (words : Call) (sites : List Site) → is_there_in sites site ≡ true → Keeps sites (change (has_number site) (counted process words) sites)
counted_keeps site process words sites there = record {
  there = λ n. same_there site n (counted process words) (λ s. refl) sites;
  up = λ n. part_still (λ (s : Site). s.up) site n (counted process words) (λ s. refl) (λ s. refl) sites;
  boot = λ n. part_still (λ (s : Site). s.boot) site n (counted process words) (λ s. refl) (λ s. refl) sites;
  accepted = λ n. at n (site == n) refl;
}
  where
    new : List Site
    new = change (has_number site) (counted process words) sites

    more : (a b : ℕ) → b ≡ a + 1 → a ≤ b
    more a b e = omega (arith, e)

    same : (a b : ℕ) → b ≡ a → a ≤ b
    same a b e = omega (arith, e)

    at : (n : ℕ) (b : Bool) → (site == n) ≡ b → (site_of sites n).accepted ≤ (site_of new n).accepted
    at n true e = subst (λ m. (site_of sites m).accepted ≤ (site_of new m).accepted) (number_eq site n e) (more (site_of sites site).accepted (site_of new site).accepted (ap (λ (s : Site). s.accepted) (own_site site (counted process words) (λ s. refl) sites there)))
    at n false e = same (site_of sites n).accepted (site_of new n).accepted (ap (λ (s : Site). s.accepted) (other_site site n (counted process words) (λ s. refl) sites e))

accepted_call : (c : Config) (p : Past) (site process : ℕ) (words : Call) (k : CallSoFar) → Accepts c p site process k.id → k.process ≡ process → CallsStand p.sites p.calls → CallsStand (change (has_number site) (counted process words) p.sites) (k ∷ p.calls)
accepted_call c p site process words k a process_is st = record {
  once = λ id. once_with id (same_call k.id id) refl;
  each = (new_stands, old.each);
  alone = λ z q above. alone_with z q above (waits_at z q k) refl;
}
  where
    new : List Site
    new = change (has_number site) (counted process words) p.sites

    keeps : Keeps p.sites new
    keeps = counted_keeps site process words p.sites a.there

    old : CallsStand new p.calls
    old = calls_same p.sites new p.calls keeps st

    own : site_of new site ≡ counted process words (site_at p site)
    own = own_site site (counted process words) (λ s. refl) p.sites a.there

    new_stands : CallStands new k
    new_stands = record {
      there = same_there site k.id.site (counted process words) (λ s. refl) p.sites ∙ (ap (is_there_in p.sites) a.site_is ∙ a.there);
      given = inr (a.boot_is ∙ ap (λ (s : Site). s.boot) at_new, most (site_of new k.id.site).accepted (ap (λ (s : Site). s.accepted) (sym at_new)));
      up = λ w. ap (λ (s : Site). s.up) (sym at_new) ∙ a.up;
      present = λ w. a.boot_is ∙ ap (λ (s : Site). s.boot) at_new;
    }
      where
        at_new : counted process words (site_at p site) ≡ site_of new k.id.site
        at_new = sym own ∙ ap (site_of new) (sym a.site_is)

        most : (m : ℕ) → m ≡ (site_at p site).accepted + 1 → k.id.n ≤ m
        most m e = omega (arith, e, a.n_is)

    shorter : (k ∷ [] ≡ k ∷ []) → length (k ∷ []) ≤ 1
    shorter e = omega arith

    once_with : (id : CallId) (b : Bool) → same_call k.id id ≡ b → length (filter (is_id id) (k ∷ p.calls)) ≤ 1
    once_with id true e = once_more (is_id id) k p.calls (subst (λ (d : CallId). list_any (is_id d) p.calls ≡ false) (call_eq k.id id e) (new_apart c p site process k.id a st))
    once_with id false e = rw e (st.once id)

    alone_with : (z q : ℕ) → (q ≡ 0 → ⊥) → (b : Bool) → waits_at z q k ≡ b → length (filter (waits_at z q) (k ∷ p.calls)) ≤ 1
    alone_with z q above true e = once_more (waits_at z q) k p.calls (let parts : ((k.id.site == z) ≡ true) × ((k.process == q) ≡ true) = both_parts (k.id.site == z) (k.process == q) (both_parts k.waits ((k.id.site == z) && (k.process == q)) e).1 in
        let same_site : site ≡ z = sym a.site_is ∙ number_eq k.id.site z parts.0 in
        let same_process : process ≡ q = sym process_is ∙ number_eq k.process q parts.1 in
        subst (λ n. list_any (waits_at n q) p.calls ≡ false) same_site (subst (λ m. list_any (waits_at site m) p.calls ≡ false) same_process (a.free (λ zero. above (sym same_process ∙ zero)))))
    alone_with z q above false e = rw e (st.alone z q above)

-- ---- the records ----

answered_calls : (p : Past) (new : List Site) (which : CallSoFar → Bool) (g : CallSoFar → List Answer) → Keeps p.sites new → CallsStand p.sites p.calls → CallsStand new (change which (λ (k : CallSoFar). record k { answers = g k }) p.calls)
answered_calls p new which g keeps st = calls_changed p.sites new p.calls which (λ (k : CallSoFar). record k { answers = g k }) keeps (leaves_answers g) st

boots_higher : (p : Past) (site boot : ℕ) → may_boot p site boot ≡ true → (site_at p site).boot < boot
boots_higher p site boot may = lower (site_at p site).boot (both_parts (not (site_at p site).up) (nat_lt (site_at p site).boot boot) (both_parts (is_there p site) (not (site_at p site).up && nat_lt (site_at p site).boot boot) may).1).1
  where
    lower : (m : ℕ) → nat_lt m boot ≡ true → m < boot
    lower m h = grind (arith, nat_tests)

no_more : Leaves (λ (k : CallSoFar). record k { waits = false })
no_more = record { name = λ k. refl; process = λ k. refl; waits = λ k h. false_true h }

pub calls_next : (c : Config) (p : Past) (r : Record) → IsTidy c p → may_follow c p r ≡ true → CallsStand (after c r p).sites (after c r p).calls
calls_next c p (rec.Up site boot) tidy may = calls_kept p.sites _ p.calls (boot_call p.sites site boot (boot_is_new p site boot may) (boots_higher p site boot may)) tidy.calls
calls_next c p (rec.Stopped site cause) tidy may = subst (λ ss. CallsStand ss (change (λ (k : CallSoFar). k.id.site == site) (λ (k : CallSoFar). record k { waits = false }) p.calls)) (sym (change_twice site (λ s. record s { epoch = None }) (λ s. record s { up = false; descriptors = [] }) (λ s. refl) p.sites))
    (calls_moved p.sites (change (has_number site) (λ s. record s { epoch = None; up = false; descriptors = [] }) p.sites) p.calls (λ (k : CallSoFar). k.id.site == site) (λ (k : CallSoFar). record k { waits = false }) no_more
    (λ k h st. stopped_call p.sites site k (record k { waits = false }) refl (λ e. refl) (λ w. false_true w) st)
    (λ k h st. stopped_call p.sites site k k refl (λ e. false_true (sym h ∙ e)) (λ w. w) st) tidy.calls)
calls_next c p (rec.Leave site e) tidy may = calls_same p.sites _ p.calls (site_changed site (λ s. record s { epoch = None }) p.sites (λ s. refl) (λ s. refl) (λ s. refl) (λ s. refl)) tidy.calls
calls_next c p (rec.Join site e members) tidy may = subst (λ (ks : List CallSoFar). CallsStand (change (has_number site) (λ s. record s { epoch = Some e; joined = Some e }) (with_epoch e members p).sites) ks) (sym (epoch_calls e members p))
    (subst (λ ss. CallsStand (change (has_number site) (λ s. record s { epoch = Some e; joined = Some e }) ss) p.calls) (sym (epoch_sites e members p)) (calls_same p.sites (change (has_number site) (λ s. record s { epoch = Some e; joined = Some e }) p.sites) p.calls (site_changed site (λ s. record s { epoch = Some e; joined = Some e }) p.sites (λ s. refl) (λ s. refl) (λ s. refl) (λ s. refl)) tidy.calls))
calls_next c p (rec.Start e group copies) tidy may = tidy.calls
calls_next c p (rec.Accept site process id words) tidy may = accepted_call c p site process words (begun_call p site process id words (beginning (table p site process) (site_at p site).epoch id words)) (accepts c p site process id words tidy.sites may) refl tidy.calls
calls_next c p (rec.Look e id request f w result) tidy may = answered_calls p p.sites (is_id id) (λ k. take (request - 1) k.answers ++ look_answer p f w result ∷ []) (kept_so p.sites) tidy.calls
calls_next c p (rec.Grant e id request i m f stamp ss) tidy may = calls_changed p.sites p.sites p.calls (is_id id) (λ (k : CallSoFar). record k { granted = Some (record { mode = m; epoch = e; inst = i; steady = cond (is_steady k.words) (version_at f stamp) None }); answers = k.answers ++ granted_answer m i f stamp (kept_in p (epoch_at p e) f) ∷ [] }) (kept_so p.sites) (record { name = λ k. refl; process = λ k. refl; waits = λ k h. h }) tidy.calls
calls_next c p (rec.Refuse e id request i m f why) tidy may = answered_calls p p.sites (is_id id) (λ k. k.answers ++ Refused why ∷ []) (kept_so p.sites) tidy.calls
calls_next c p (rec.Act e i n o result) tidy may = answered_calls p p.sites (is_actor (epoch_at p e) i n) (λ k. k.answers ++ outcome_answer result ∷ []) (kept_so p.sites) tidy.calls
calls_next c p (rec.Commit f site stamp parents content) tidy may = calls_same p.sites _ p.calls (site_changed site (λ s. record s { held = record { file = f; stamp = stamp } ∷ filter (λ (v : Copy). not (same_file v.file f)) s.held }) p.sites (λ s. refl) (λ s. refl) (λ s. refl) (λ s. refl)) tidy.calls
calls_next c p (rec.Release e i f stamp) tidy may = subst (λ (q : Past). CallsStand q.sites q.calls) (sym (closed_as (is_ender (epoch_at p e) i) stamp p (filter (is_named i) (epoch_at p e).opened))) (closed_calls p.sites (is_ender (epoch_at p e) i) stamp (filter (is_named i) (epoch_at p e).opened) p.calls tidy.calls)
calls_next c p (rec.Adopt f site stamp) tidy may = calls_same p.sites _ p.calls (site_changed site (λ s. record s { held = record { file = f; stamp = stamp } ∷ filter (λ (v : Copy). not (same_file v.file f)) s.held }) p.sites (λ s. refl) (λ s. refl) (λ s. refl) (λ s. refl)) tidy.calls
calls_next c p (rec.Answer site process id r) tidy may = of (answers_one c p site process id r tidy.calls may)
  where
    of : AnswersOne c p site process id r → CallsStand (told_by c (rec.Answer site process id r) p).sites (told_by c (rec.Answer site process id r) p).calls
    of it = subst (λ (q : Past). CallsStand q.sites q.calls) (sym it.told) (calls_changed p.sites (change (has_number it.call.id.site) (λ s. record s { descriptors = taken_by r it.call ++ held_again r it.call s.descriptors }) p.sites) p.calls (is_id it.call.id) (λ (k : CallSoFar). record k { waits = false })
        (site_changed it.call.id.site (λ s. record s { descriptors = taken_by r it.call ++ held_again r it.call s.descriptors }) p.sites (λ s. refl) (λ s. refl) (λ s. refl) (λ s. refl)) no_more tidy.calls)
calls_next c p (rec.Packet number from to kind) tidy may = tidy.calls
calls_next c p rec.Void tidy may = tidy.calls
calls_next c p rec.Budget tidy may = tidy.calls

pub calls_first : (c : Config) → CallsStand (nothing_yet c).sites (nothing_yet c).calls
calls_first c = record { once = λ id. omega arith; each = tt; alone = λ site process above. omega arith }
