-- Each record keeps that the sites of the past say what the folds say.
use Rattle.std.proofs.Common.{◌≡◌, ℕ, zero, suc, ◌+◌, ◌≤◌, ◌<◌, ◌==◌, ◌&&◌, nat_le, Bool, true, false, List, [], ◌∷◌, filter, map, fold, Option, Some, None, refl, sym, ap, subst, ◌∙◌, arith}
use Rattle.std.proofs.lemmas.Bool.Decides.{nat_tests}
use Rattle.std.specs.List.{find, list_any}
use Rattle.std.specs.Option.{option_map}
use Rattle.locus_ids.specs.declared.config.Config.{Config}
use Rattle.locus_ids.specs.declared.sites.Members.{Members}
use Rattle.locus_ids.specs.declared.ids.CallId.{CallId}
use Rattle.locus_ids.specs.declared.ids.EpochId.{EpochId}
use Rattle.commit_graph.specs.Vectors.{numbers_from}
use Rattle.trace_book.specs.Same.{same_call}
use Rattle.trace_book.specs.declared.descriptor.Beginning.{Beginning}
use Rattle.trace_book.specs.declared.record.Record.{Record}
use Rattle.trace_book.specs.declared.record.Record.TheVariants as rec
use Rattle.trace_book.specs.declared.reply.Reply.{Reply}
use Rattle.call_rules.specs.declared.answer.Answer.{Answer}
use Rattle.call_rules.specs.declared.want.Want.{Want}
use Rattle.call_rules.specs.declared.want.Want.TheVariants.{Give}
use Rattle.locus_ids.specs.Sizes.{descriptors_max}
use Rattle.trace_book.specs.declared.descriptor.Descriptor.{Descriptor}
use Rattle.call_rules.specs.Descriptors.{lowest_free}
use Rattle.tree_model.specs.declared.accepted.Waiting.{Waiting}
use Rattle.tree_model.specs.Calls.{call_named, waiting}
use Rattle.tree_model.specs.Folds.{Trace}
use Rattle.promises.specs.of_lawful_trace.CallRows.{is_this}
use Rattle.promises.specs.of_lawful_trace.Lawful.{MayCome}
use Rattle.promises.specs.of_lawful_trace.Progress.{Answers, answers, left_epoch, unless_left, wants_as, wants_next, now_wants}
use Rattle.promises.specs.of_lawful_trace.Tables.{begun, descriptor, opened_as}
use Rattle.promises.specs.Past.{Past, Site, CallSoFar, epoch_at}
use Rattle.promises.specs.After.{after, change, with_epoch, is_epoch, is_id, is_ender, answered, close_answer, replied_to}
use Rattle.promises.specs.Past.{is_named}
use Rattle.past_laws.specs.Agreement.{SitesAgree, Agrees, CallsAgree, SaysGiven, is_of_cluster, speaks_of_sites, waiting_as}
use Rattle.past_laws.proofs.Names.{number_eq, call_eq, both_parts}
use Rattle.past_laws.proofs.Changing.{found_passes, only_one}
use Rattle.past_laws.proofs.Finding.{IsImage, found_image, find_both, found_only, any_mapped}
use Rattle.past_laws.proofs.SitesSay.{SitesSay, said_of_past, past_as_said, has_number, is_there_in, change_twice}
use Rattle.past_laws.proofs.SitesSteps.{entry, sites_up, sites_stopped, sites_left, sites_joined, sites_committed, sites_adopted, outside, within}
use Rattle.past_laws.proofs.SitesCalls.{sites_accepted, sites_answered, sites_still, taking, TakesFree}
use Rattle.past_laws.proofs.SitesFree.{FreeWant, FreeReply, MayGive, wants_free, with_bytes, free_stands}

-- Sites of the cluster.

pub among_numbers : (z first many : ℕ) → first ≤ z → z < first + many → list_any (λ m. m == z) (numbers_from first many) ≡ true
among_numbers z first zero low high = absurd (omega (arith, low, high))
among_numbers z first (suc many) low high = over (among_numbers z (first + 1) many) (first == z) refl
  where
    further : (first == z) ≡ false → first + 1 ≤ z
    further e = grind (arith, nat_tests)

    over : (first + 1 ≤ z → z < first + 1 + many → list_any (λ m. m == z) (numbers_from (first + 1) many) ≡ true) → (b : Bool) → (first == z) ≡ b → list_any (λ m. m == z) (numbers_from first (suc many)) ≡ true
    over later true e = rw e refl
    over later false e = rw e (later (further e) (omega (arith, high)))

pub of_cluster_there : (c : Config) (sites : List Site) (z : ℕ) → map (λ (s : Site). s.number) sites ≡ numbers_from 1 c.sites → is_of_cluster c z ≡ true → is_there_in sites z ≡ true
of_cluster_there c sites z numbers h =
    let parts = both_parts (nat_le 1 z) (nat_le z c.sites) h in
    sym (any_mapped (λ (s : Site). s.number) (λ m. m == z) sites)
    ∙ (ap (λ ns. list_any (λ m. m == z) ns) numbers ∙ among_numbers z 1 c.sites (least parts.0) (most parts.1))
  where
    least : nat_le 1 z ≡ true → 1 ≤ z
    least e = grind (arith, nat_tests)

    most : nat_le z c.sites ≡ true → z < 1 + c.sites
    most e = grind (arith, nat_tests)

-- The call that waits.

-- a call that waits, as the calls of the past have it
pub record Caller (before : Trace) (p : Past) (site process : ℕ) (id : CallId) (w : Waiting) : Type 0 where
  pub k : CallSoFar
  pub found : find (is_id id) p.calls ≡ Some k
  pub only : filter (is_id id) p.calls ≡ k ∷ []
  pub waits : k.waits ≡ true
  pub own : k.id ≡ id
  pub at : k.id.site ≡ site
  pub of : k.process ≡ process
  pub is : waiting_as k ≡ w

pub caller_of : (c : Config) (before : Trace) (p : Past) (site process : ℕ) (id : CallId) (w : Waiting) → CallsAgree c before p → find (is_this site process id) (waiting before) ≡ Some w → Caller before p site process id w
caller_of c before p site process id w calls e = over (found_image waiting_as (is_this site process id) (filter (λ (k : CallSoFar). k.waits) p.calls) w (ap (find (is_this site process id)) calls.waits ∙ e))
  where
    asks : CallSoFar → Bool
    asks k = is_this site process id (waiting_as k)

    named : (k : CallSoFar) → (k.waits && asks k) ≡ true → (k.waits ≡ true) × ((k.id.site == site) ≡ true) × ((k.process == process) ≡ true) × (same_call k.id id ≡ true)
    named k h =
        let all = both_parts k.waits (asks k) h in
        let parts = both_parts ((k.id.site == site) && (k.process == process)) (same_call k.id id) all.1 in
        let of = both_parts (k.id.site == site) (k.process == process) parts.0 in
        (all.0, of.0, of.1, parts.1)

    over : IsImage waiting_as asks (filter (λ (k : CallSoFar). k.waits) p.calls) w → Caller before p site process id w
    over it =
        let there = sym (find_both asks (λ (k : CallSoFar). k.waits) p.calls) ∙ it.found in
        let facts = named it.one (found_passes (λ (k : CallSoFar). k.waits && asks k) p.calls it.one there) in
        let here = found_only (is_id id) (λ (k : CallSoFar). k.waits && asks k) (λ k h. (named k h).3) p.calls it.one (calls.once id) there in
        record {
          k = it.one;
          found = here;
          only = only_one (is_id id) p.calls it.one (calls.once id) here;
          waits = facts.0;
          own = call_eq it.one.id id facts.3;
          at = number_eq it.one.id.site site facts.1;
          of = number_eq it.one.process process facts.2;
          is = it.is;
        }

pub caller_named : (c : Config) (before : Trace) (p : Past) (site process : ℕ) (id : CallId) (w : Waiting) → CallsAgree c before p → Caller before p site process id w → call_named before id ≡ Some w
caller_named c before p site process id w calls by = sym (calls.named id) ∙ (ap (option_map waiting_as) by.found ∙ ap (λ (v : Waiting). Some v) by.is)

-- an open that is answered takes a number that stands for nothing
takes_free : (c : Config) (before : Trace) (p : Past) (site process : ℕ) (id : CallId) (r : Reply) (w : Waiting) → CallsAgree c before p → Caller before p site process id w → now_wants c before w ≡ Give r → TakesFree r before site process
takes_free c before p site process id r w calls by gives = λ fd e. free_stands (descriptor before site process) 0 descriptors_max fd
    (subst (FreeReply (may (descriptor before site process))) e (subst (FreeWant (may (descriptor before site process))) gives (now (left_epoch before w) (wants_next c before w.call) (next (begun before w.call) (answers c before w.call)))))
  where
    may : (ℕ → Option Descriptor) → MayGive
    may t = with_bytes (lowest_free t)

    script : (begins : Option Beginning) (so_far : Answers) → FreeWant (may (descriptor before w.site w.process)) (wants_as c before (Some w) begins so_far)
    script None so_far = tt
    script (Some begins) so_far = wants_free (may (descriptor before w.site w.process)) c.mounts _ w.words begins (λ k. refl) so_far

    call : w.call ≡ id
    call = ap (λ (v : Waiting). v.call) (sym by.is) ∙ by.own

    named : call_named before w.call ≡ Some w
    named = ap (call_named before) call ∙ caller_named c before p site process id w calls by

    next : (begins : Option Beginning) (so_far : Answers) → FreeWant (may (descriptor before site process)) (wants_as c before (call_named before w.call) begins so_far)
    next begins so_far = subst (λ (o : Option Waiting). FreeWant (may (descriptor before site process)) (wants_as c before o begins so_far)) (sym named)
        (subst (λ n. FreeWant (may (descriptor before n process)) (wants_as c before (Some w) begins so_far)) (ap (λ (v : Waiting). v.site) (sym by.is) ∙ by.at)
        (subst (λ n. FreeWant (may (descriptor before w.site n)) (wants_as c before (Some w) begins so_far)) (ap (λ (v : Waiting). v.process) (sym by.is) ∙ by.of) (script begins so_far)))

    now : (o : Option EpochId) (want : Want) → FreeWant (may (descriptor before site process)) want → FreeWant (may (descriptor before site process)) (unless_left o want)
    now None want h = h
    now (Some e) want h = tt

-- The sites of what becomes of the past.

epoch_sites : (e : EpochId) (members : Members) (p : Past) → (with_epoch e members p).sites ≡ p.sites
epoch_sites e members p = over (list_any (is_epoch e) p.epochs) refl
  where
    over : (b : Bool) → list_any (is_epoch e) p.epochs ≡ b → (with_epoch e members p).sites ≡ p.sites
    over true h = rw h refl
    over false h = rw h refl

-- the calls that are answered change no site
pub answered_sites : {X : Type 0} (which : X → CallSoFar → Bool) (a : X → Answer) (xs : List X) (p : Past) → (fold (λ old x. answered (which x) (a x) old) p xs).sites ≡ p.sites
answered_sites which a [] p = refl
answered_sites which a (x ∷ xs) p = answered_sites which a xs (answered (which x) (a x) p)

-- Each record.

pub sites_step : (c : Config) (line : ℕ) (what : Record) (before : Trace) (p : Past) → MayCome c before what → speaks_of_sites c what ≡ true → SaysGiven c before what → Agrees c before p → SitesAgree c (entry line what ∷ before) (after c what p)
sites_step c line (rec.Up site boot) before p may ours given a = past_as_said c _ (after c (rec.Up site boot) p)
    (sites_up c line site boot before p.sites (said_of_past c before p a.sites) (of_cluster_there c p.sites site a.sites.numbers ours) may.stopped)
sites_step c line (rec.Stopped site why) before p may ours given a = past_as_said c _ (after c (rec.Stopped site why) p)
    (subst (SitesSay c (entry line (rec.Stopped site why) ∷ before)) (sym (change_twice site outside (λ (x : Site). record x { up = false; descriptors = [] }) (λ x. refl) p.sites))
    (sites_stopped c line site why before p.sites (said_of_past c before p a.sites) (of_cluster_there c p.sites site a.sites.numbers ours)))
sites_step c line (rec.Leave site e) before p may ours given a = past_as_said c _ (after c (rec.Leave site e) p)
    (sites_left c line site e before p.sites (said_of_past c before p a.sites) (of_cluster_there c p.sites site a.sites.numbers ours))
sites_step c line (rec.Join site e members) before p may ours given a = past_as_said c _ (after c (rec.Join site e members) p)
    (subst (λ (sites : List Site). SitesSay c (entry line (rec.Join site e members) ∷ before) (change (has_number site) (within e) sites)) (sym (epoch_sites e members p))
    (sites_joined c line site e members before p.sites (said_of_past c before p a.sites) (of_cluster_there c p.sites site a.sites.numbers ours) may.up))
sites_step c line (rec.Accept site process id words) before p may ours given a = past_as_said c _ (after c (rec.Accept site process id words) p)
    (sites_accepted c line site process id words before p.sites (said_of_past c before p a.sites) (of_cluster_there c p.sites site a.sites.numbers ours))
sites_step c line (rec.Commit f site stamp parents content) before p may ours given a = past_as_said c _ (after c (rec.Commit f site stamp parents content) p)
    (sites_committed c line f site stamp parents content before p.sites (said_of_past c before p a.sites) (of_cluster_there c p.sites site a.sites.numbers ours))
sites_step c line (rec.Adopt f site stamp) before p may ours given a = past_as_said c _ (after c (rec.Adopt f site stamp) p)
    (sites_adopted c line f site stamp before p.sites (said_of_past c before p a.sites) (of_cluster_there c p.sites site a.sites.numbers ours))
sites_step c line (rec.Answer site process id r) before p may ours given a = past_as_said c _ (after c (rec.Answer site process id r) p) (over (caller_of c before p site process id may.caller a.calls may.waits))
  where
    over : Caller before p site process id may.caller → SitesSay c (entry line (rec.Answer site process id r) ∷ before) (after c (rec.Answer site process id r) p).sites
    over by = subst (λ (ks : List CallSoFar). SitesSay c (entry line (rec.Answer site process id r) ∷ before) (fold (λ old k. replied_to r k old) p ks).sites) (sym by.only)
        (subst (λ n. SitesSay c (entry line (rec.Answer site process id r) ∷ before) (change (has_number n) (taking r by.k) p.sites)) (sym by.at)
        (sites_answered c line site process id r by.k before p.sites by.of
        (a.calls.granted by.k (subst (λ (i : CallId). find (is_id i) p.calls ≡ Some by.k) (sym by.own) by.found) ∙ ap (opened_as before) by.own)
        (caller_named c before p site process id may.caller a.calls by ∙ ap (λ (w : Waiting). Some w) (sym by.is))
        (takes_free c before p site process id r may.caller a.calls by (given may.caller may.waits))
        (said_of_past c before p a.sites) (of_cluster_there c p.sites site a.sites.numbers ours)))
sites_step c line (rec.Release e i f stamp) before p may ours given a = past_as_said c _ (after c (rec.Release e i f stamp) p)
    (subst (SitesSay c (entry line (rec.Release e i f stamp) ∷ before)) (sym (answered_sites (λ x. is_ender (epoch_at p e) i) (close_answer stamp) (filter (is_named i) (epoch_at p e).opened) p))
    (sites_still c line (rec.Release e i f stamp) before p.sites refl (said_of_past c before p a.sites)))
sites_step c line what before p may ours given a = past_as_said c _ (after c what p) (sites_still c line what before p.sites refl (said_of_past c before p a.sites))
