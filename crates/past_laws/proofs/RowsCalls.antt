-- The rows of calls: what may be accepted, looked at or answered by the folds may be by the past.
use Rattle.std.proofs.Common.{◌≡◌, ℕ, ◌+◌, ◌-◌, ◌==◌, Bool, true, false, not, cond, ◌&&◌, ◌||◌, List, [], ◌∷◌, length, map, filter, take, Option, Some, None, refl, sym, ◌∙◌, ap, subst, arith}
use Rattle.std.specs.Prelude.{nat_lt, nat_le}
use Rattle.std.specs.List.{find, list_any}
use Rattle.std.specs.Option.{option_map}
use Rattle.std.proofs.lemmas.Bool.Decides.{nat_tests}
use Rattle.locus_ids.specs.declared.config.Config.{Config}
use Rattle.locus_ids.specs.declared.sites.Members.{Members}
use Rattle.locus_ids.specs.declared.ids.CallId.{CallId}
use Rattle.locus_ids.specs.declared.ids.EpochId.{EpochId}
use Rattle.locus_ids.specs.declared.ids.FileId.{FileId}
use Rattle.trace_book.specs.declared.operation.What.{What}
use Rattle.trace_book.specs.declared.operation.Served.{Served}
use Rattle.call_rules.specs.declared.want.Want.TheVariants as want
use Rattle.tree_model.specs.declared.accepted.Waiting.{Waiting}
use Rattle.tree_model.specs.Calls.{waiting_of, is_of}
use Rattle.tree_model.specs.Epochs.{is_in}
use Rattle.tree_model.specs.Folds.{Trace}
use Rattle.tree_model.specs.Given.{served_by}
use Rattle.tree_model.specs.Packs.{all_sites, is_member, has_pack, sync_site}
use Rattle.tree_model.specs.Same.{is_served}
use Rattle.tree_model.specs.Tree.{tree_of, kept_in as kept_by}
use Rattle.promises.specs.of_lawful_trace.CallRows.{MayAccept, next_call as next_of}
use Rattle.promises.specs.of_lawful_trace.Progress.{answers, wants_after}
use Rattle.promises.specs.of_lawful_trace.TreeRows.{MayLook, IsCallIn, is_served as is_served_in, has_joined_some, is_next_or_again}
use Rattle.promises.specs.Past.{Past, Epoch, Site, CallSoFar, site_at, no_site, epoch_at, unformed, is_number, sync_of, kept_in, asks_after}
use Rattle.promises.specs.After.{is_id, is_epoch}
use Rattle.promises.specs.Rows.{may_accept, may_look, is_there, waits_at, next_call, is_step_of, is_synced}
use Rattle.promises.specs.Same.{same_request}
use Rattle.past_laws.specs.Agreement.{Agrees, is_of_cluster, waiting_as}
use Rattle.past_laws.proofs.Names.{false_true, none_some, some_same, both, both_parts, number_eq, call_eq, call_test, epoch_test, file_own}
use Rattle.past_laws.proofs.Changing.{any_finds, first_found, found_passes, found_any}
use Rattle.past_laws.proofs.SameOwn.{what_own}
use Rattle.past_laws.proofs.Sites.{of_cluster_there}
use Rattle.past_laws.proofs.CallsFields.{waiting_in}
use Rattle.past_laws.proofs.CallsOwners.{epoch_stands}
use Rattle.past_laws.proofs.CallsServed.{kept_same}
use Rattle.past_laws.proofs.CallsAsks.{request_as}

-- ---- accepts ----

-- none of a process waits
none_waits : (s process : ℕ) (ks : List CallSoFar) → waiting_of s process (waiting_in ks) ≡ None → list_any (waits_at s process) ks ≡ false
none_waits s process [] h = refl
none_waits s process (k ∷ ks) h = over (none_waits s process ks) k.waits (is_of s process (waiting_as k)) refl h
  where
    over : (waiting_of s process (waiting_in ks) ≡ None → list_any (waits_at s process) ks ≡ false) → (a b : Bool) → is_of s process (waiting_as k) ≡ b → waiting_of s process (map waiting_as (cond a (k ∷ filter (λ (x : CallSoFar). x.waits) ks) (filter (λ (x : CallSoFar). x.waits) ks))) ≡ None
        → ((a && is_of s process (waiting_as k)) || list_any (waits_at s process) ks) ≡ false
    over later true true f e = none_some (waiting_as k) (sym (rw f at e))
    over later true false f e = rw f (later (rw f at e))
    over later false b f e = later e

-- a site that is there has its number
site_number : (p : Past) (site : ℕ) → is_there p site ≡ true → (site_at p site).number ≡ site
site_number p site h = (let f = any_finds (λ (s : Site). s.number == site) p.sites h in
    ap (λ (s : Site). s.number) (first_found no_site (λ (s : Site). s.number == site) p.sites f.one f.found) ∙ number_eq f.one.number site f.passes)

-- the next call of a site by both
pub next_same : (c : Config) (before : Trace) (p : Past) (site : ℕ) → Agrees c before p → is_there p site ≡ true → next_call (site_at p site) ≡ next_of before site
next_same c before p site a there = λ i. record { site = site_number p site there i; boot = a.sites.boot site there i; n = a.sites.accepted site i + 1 }

pub row_accept : (c : Config) (before : Trace) (p : Past) (site process : ℕ) (id : CallId) → Agrees c before p → is_of_cluster c site ≡ true → MayAccept c before site process id → may_accept p site process id ≡ true
row_accept c before p site process id a ours may = (let there = of_cluster_there c p.sites site a.sites.numbers ours in
    both (site_at p site).up _ (a.sites.up site there ∙ may.up)
    (both (not (list_any (waits_at site process) p.calls)) _ (ap not (none_waits site process p.calls (ap (waiting_of site process) a.calls.waits ∙ may.idle)))
    (call_test id (next_call (site_at p site)) (may.numbered ∙ sym (next_same c before p site a there)))))

-- ---- looks ----

-- the synchronization site of a group by both
pub take_found : (q : ℕ → Bool) (ns : List ℕ) (n : ℕ) → find q ns ≡ Some n → take 1 (filter q ns) ≡ n ∷ []
take_found q [] n e = none_some n e
take_found q (m ∷ ns) n e = over (take_found q ns n) (q m) e
  where
    over : (find q ns ≡ Some n → take 1 (filter q ns) ≡ n ∷ []) → (b : Bool) → cond b (Some m) (find q ns) ≡ Some n → take 1 (cond b (m ∷ filter q ns) (filter q ns)) ≡ n ∷ []
    over later true k = ap (λ (x : ℕ). x ∷ []) (some_same m n k)
    over later false k = later k

pub synced_same : (c : Config) (before : Trace) (p : Past) → Agrees c before p → (e : EpochId) (group : ℕ) → is_served_in c before e group ≡ true → is_synced c (epoch_at p e) group ≡ true
synced_same c before p a e group h = over (find (is_epoch e) p.epochs) refl
  where
    served : has_joined_some before e (sync_site c group (option_map (λ (t : Epoch). t.members) (find (is_epoch e) p.epochs))) ≡ true
    served = ap (λ (m : Option Members). has_joined_some before e (sync_site c group m)) (a.epochs.members e) ∙ h

    at : (t : Epoch) → epoch_at p e ≡ t → (o : Option ℕ) → sync_site c group (Some t.members) ≡ o → has_joined_some before e o ≡ true → list_any (is_number t.joined) (sync_of c t group) ≡ true
    at t is None f k = false_true k
    at t is (Some site) f k = ap (list_any (is_number t.joined)) (take_found (λ (s : ℕ). is_member t.members s && has_pack c group s) all_sites site f) ∙ (ap (λ (b : Bool). b || false) (ap (λ (x : Epoch). is_number x.joined site) (sym is) ∙ (a.epochs.joined e site ∙ k)))

    over : (o : Option Epoch) → find (is_epoch e) p.epochs ≡ o → is_synced c (epoch_at p e) group ≡ true
    over None f = false_true (ap (λ (x : Option Epoch). has_joined_some before e (sync_site c group (option_map (λ (t : Epoch). t.members) x))) (sym f) ∙ served)
    over (Some t) f = (let is = first_found (unformed e) (is_epoch e) p.epochs t f in subst (λ (x : Epoch). is_synced c x group ≡ true) (sym is)
        (at t is (sync_site c group (Some t.members)) refl (ap (λ (x : Option Epoch). has_joined_some before e (sync_site c group (option_map (λ (u : Epoch). u.members) x))) (sym f) ∙ served)))

-- the call that a step of the epoch belongs to
pub record StepCall (p : Past) (e : EpochId) (id : CallId) : Type 0 where
  pub one : CallSoFar
  pub found : find (is_id id) p.calls ≡ Some one
  pub id_is : one.id ≡ id
  pub own : find (is_id one.id) p.calls ≡ Some one
  pub made_in : is_in one.epoch (epoch_at p e).id ≡ true

pub step_call : (c : Config) (before : Trace) (p : Past) → Agrees c before p → (e : EpochId) (id : CallId) → IsCallIn before e id → StepCall p e id
step_call c before p a e id step = over (find (is_id id) p.calls) refl (a.calls.named id ∙ step.named)
  where
    over : (o : Option CallSoFar) → find (is_id id) p.calls ≡ o → option_map waiting_as o ≡ Some step.accepted → StepCall p e id
    over None f h = none_some step.accepted h
    over (Some k) f h = (let is = some_same (waiting_as k) step.accepted h in let same = passes k f in record {
      one = k;
      found = f;
      id_is = same;
      own = ap (λ (d : CallId). find (is_id d) p.calls) same ∙ f;
      made_in = ap (λ (w : Waiting). is_in w.epoch (epoch_at p e).id) is ∙ (ap (λ (o : Option EpochId). is_in o (epoch_at p e).id) step.made_in ∙ epoch_test e (epoch_at p e).id (sym (epoch_stands before p.calls e p a.calls.instances).id_is));
    })
      where
        passes : (k : CallSoFar) → find (is_id id) p.calls ≡ Some k → k.id ≡ id
        passes k f = call_eq k.id id (found_passes (is_id id) p.calls k f)

-- a call of the epoch that passes is there
pub is_step : (p : Past) (e : EpochId) (id : CallId) (asked : CallSoFar → Bool) → (k : StepCall p e id) → asked k.one ≡ true → is_step_of p (epoch_at p e) id asked ≡ true
is_step p e id asked k h = found_any (is_id id) (λ (x : CallSoFar). is_id id x && (is_in x.epoch (epoch_at p e).id && asked x)) p.calls k.one k.found
    (both (is_id id k.one) _ (call_test k.one.id id k.id_is) (both (is_in k.one.epoch (epoch_at p e).id) (asked k.one) k.made_in h))

look_numbered : (request m : ℕ) (b : Bool) → is_next_or_again request m ≡ true → b ≡ true → nat_lt 0 request && (nat_le m request && (nat_le request (m + 1) && b)) ≡ true
look_numbered request m b h e = both (nat_lt 0 request) _ (grind (arith, nat_tests)) (both (nat_le m request) _ (grind (arith, nat_tests)) (both (nat_le request (m + 1)) b (grind (arith, nat_tests)) e))

pub row_look : (c : Config) (before : Trace) (p : Past) (e : EpochId) (id : CallId) (request : ℕ) (f : FileId) (w : What) (result : Served) → Agrees c before p → MayLook c before e id request f w result → may_look c p (epoch_at p e) id request f w result ≡ true
row_look c before p e id request f w result a may = (let given = both_parts (tree_of c e f.group before).started (is_served (served_by w (kept_by c before e f)) result) may.gives in
    both (is_number (epoch_at p e).started f.group) _ (a.trees.started e f.group ∙ given.0)
    (both (is_synced c (epoch_at p e) f.group) _ (synced_same c before p a e f.group may.served)
    (both (is_served (served_by w (kept_in p (epoch_at p e) f)) result) _ (ap (λ ss. is_served (served_by w ss) result) (kept_same c before p a e f) ∙ given.1)
    (is_step p e id _ (step_call c before p a e id may.step) (asked (step_call c before p a e id may.step))))))
  where
    asked : (k : StepCall p e id) → (nat_lt 0 request && (nat_le (length k.one.answers) request && (nat_le request (length k.one.answers + 1) && same_request (asks_after c p k.one (take (request - 1) k.one.answers)) (want.Look f w)))) ≡ true
    asked k = look_numbered request (length k.one.answers) _ (ap (λ xs. is_next_or_again request (length xs)) same ∙ may.numbered)
        (ap (λ v. same_request v (want.Look f w)) (request_as c before p a k.one k.own (take (request - 1) k.one.answers) (want.Look f w) (ap (λ xs. wants_after c before k.one.id (take (request - 1) xs)) same ∙ (ap (λ d. wants_after c before d (take (request - 1) (answers c before id))) k.id_is ∙ may.asked)) refl)
        ∙ both _ _ (file_own f) (what_own w))
      where
        same : k.one.answers ≡ answers c before id
        same = a.calls.answers k.one k.own ∙ ap (answers c before) k.id_is
