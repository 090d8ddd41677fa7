-- The rows of accepts and looks let nothing through that the folds refuse.
use Rattle.std.proofs.Common.{◌≡◌, ℕ, ◌+◌, ◌-◌, ◌&&◌, nat_lt, nat_le, not, Bool, true, false, List, filter, length, map, take, Some, None, sym, ap, ◌∙◌, arith}
use Rattle.std.proofs.lemmas.Bool.Decides.{nat_tests}
use Rattle.std.specs.List.{find, list_any}
use Rattle.std.specs.Option.{option_map}
use Rattle.locus_ids.specs.declared.config.Config.{Config}
use Rattle.locus_ids.specs.declared.ids.CallId.{CallId}
use Rattle.locus_ids.specs.declared.ids.EpochId.{EpochId}
use Rattle.locus_ids.specs.declared.ids.FileId.{FileId}
use Rattle.trace_book.specs.declared.operation.Served.{Served}
use Rattle.trace_book.specs.declared.operation.What.{What}
use Rattle.call_rules.specs.declared.answer.Answer.{Answer}
use Rattle.call_rules.specs.declared.want.Want.TheVariants as want
use Rattle.call_rules.specs.Descriptors.{lowest_free}
use Rattle.tree_model.specs.Calls.{is_of, waiting_of}
use Rattle.tree_model.specs.Folds.{Trace}
use Rattle.tree_model.specs.Given.{served_by}
use Rattle.tree_model.specs.Same.{is_served}
use Rattle.tree_model.specs.Epochs.{is_in}
use Rattle.tree_model.specs.Tree.{kept_in as kept_by, tree_of}
use Rattle.promises.specs.of_lawful_trace.CallRows.{MayAccept}
use Rattle.promises.specs.of_lawful_trace.Progress.{answers, is_packed_in, wants_after}
use Rattle.promises.specs.of_lawful_trace.Tables.{descriptor}
use Rattle.promises.specs.of_lawful_trace.TreeRows.{MayLook, is_next_or_again, is_served as is_served_in}
use Rattle.promises.specs.Past.{CallSoFar, Past, asks_after, epoch_at, is_number, kept_in, site_at}
use Rattle.promises.specs.After.{is_id}
use Rattle.promises.specs.Rows.{is_synced, may_accept, may_look, next_call, waits_at}
use Rattle.promises.specs.Same.{same_request}
use Rattle.past_laws.specs.Agreement.{Agrees, is_of_cluster, waiting_as}
use Rattle.past_laws.proofs.Names.{both, both_parts, call_eq}
use Rattle.past_laws.proofs.Changing.{found_passes, none_finds}
use Rattle.past_laws.proofs.Finding.{find_both, find_mapped}
use Rattle.past_laws.proofs.BackOpens.{Caller, call_in, caller}
use Rattle.past_laws.proofs.BackSame.{look_back}
use Rattle.past_laws.proofs.BackSites.{not_so}
use Rattle.past_laws.proofs.CallsAsks.{asks_by, is_request, request_same, wants_by}
use Rattle.past_laws.proofs.CallsServed.{kept_same}
use Rattle.past_laws.proofs.RowsCalls.{next_same}
use Rattle.past_laws.proofs.RowsServed.{synced_as}
use Rattle.past_laws.proofs.Sites.{of_cluster_there}
use Rattle.call_rules.specs.Scripts.{wants}

-- Accepts.

none_of : (site process : ℕ) (ks : List CallSoFar) → list_any (waits_at site process) ks ≡ false → waiting_of site process (map waiting_as (filter (λ (k : CallSoFar). k.waits) ks)) ≡ None
none_of site process ks h = find_mapped waiting_as (is_of site process) (filter (λ (k : CallSoFar). k.waits) ks)
    ∙ (ap (option_map waiting_as) (find_both (λ (k : CallSoFar). is_of site process (waiting_as k)) (λ (k : CallSoFar). k.waits) ks ∙ none_finds (waits_at site process) ks h))

pub back_accept : (c : Config) (before : Trace) (p : Past) (site process : ℕ) (id : CallId) → Agrees c before p → is_of_cluster c site ≡ true → may_accept p site process id ≡ true → MayAccept c before site process id
back_accept c before p site process id a ours h =
    let there = of_cluster_there c p.sites site a.sites.numbers ours in
    let up = both_parts (site_at p site).up _ h in
    let idle = both_parts (not (list_any (waits_at site process) p.calls)) _ up.1 in
    record {
      up = sym (a.sites.up site there) ∙ up.0;
      idle = ap (waiting_of site process) (sym a.calls.waits) ∙ none_of site process p.calls (not_so (list_any (waits_at site process) p.calls) idle.0);
      numbered = call_eq id (next_call (site_at p site)) idle.1 ∙ next_same c before p site a there;
    }

-- Looks.

next_or_again : (request n : ℕ) → nat_lt 0 request ≡ true → nat_le n request ≡ true → nat_le request (n + 1) ≡ true → is_next_or_again request n ≡ true
next_or_again request n low least most = grind (arith, nat_tests)

pub back_look : (c : Config) (before : Trace) (p : Past) (e : EpochId) (id : CallId) (request : ℕ) (f : FileId) (w : What) (result : Served) → Agrees c before p → may_look c p (epoch_at p e) id request f w result ≡ true → MayLook c before e id request f w result
back_look c before p e id request f w result a h =
    let started = both_parts (is_number (epoch_at p e).started f.group) _ h in
    let synced = both_parts (is_synced c (epoch_at p e) f.group) _ started.1 in
    let served = both_parts (is_served (served_by w (kept_in p (epoch_at p e) f)) result) _ synced.1 in
    over (sym (a.trees.started e f.group) ∙ started.0) (synced_as c before p e f.group a ∙ synced.0) (ap (λ ss. is_served (served_by w ss) result) (sym (kept_same c before p a e f)) ∙ served.0)
    (caller c before p a id step served.1)
  where
    asked : CallSoFar → Bool
    asked k = nat_lt 0 request && (nat_le (length k.answers) request && (nat_le request (length k.answers + 1) && same_request (asks_after c p k (take (request - 1) k.answers)) (want.Look f w)))

    step : CallSoFar → Bool
    step k = is_in k.epoch (epoch_at p e).id && asked k

    over : (tree_of c e f.group before).started ≡ true → is_served_in c before e f.group ≡ true → is_served (served_by w (kept_by c before e f)) result ≡ true → Caller p id step → MayLook c before e id request f w result
    over started synced served it =
        let own = call_eq it.call.id id (found_passes (is_id id) p.calls it.call it.found) in
        let found = ap (λ d. find (is_id d) p.calls) own ∙ it.found in
        let heard = a.calls.answers it.call found ∙ ap (answers c before) own in
        let inside = both_parts (is_in it.call.epoch (epoch_at p e).id) _ it.so in
        let low = both_parts (nat_lt 0 request) _ inside.1 in
        let least = both_parts (nat_le (length it.call.answers) request) _ low.1 in
        let most = both_parts (nat_le request (length it.call.answers + 1)) _ least.1 in
        record {
          gives = both (tree_of c e f.group before).started _ started served;
          served = synced;
          step = call_in c before p a e id it.call it.found inside.0;
          numbered = ap (λ xs. is_next_or_again request (length xs)) (sym heard) ∙ next_or_again request (length it.call.answers) low.0 least.0 most.0;
          asked = ap (λ xs. wants_after c before id (take (request - 1) xs)) (sym heard) ∙ asks it.call own found (take (request - 1) it.call.answers) (look_back _ f w most.1);
        }
      where
        asks : (k : CallSoFar) → k.id ≡ id → find (is_id k.id) p.calls ≡ Some k → (xs : List Answer) → asks_after c p k xs ≡ want.Look f w → wants_after c before id xs ≡ want.Look f w
        asks k own found xs says = ap (λ d. wants_after c before d xs) (sym own) ∙ (wants_by c before p a k found xs
            ∙ (request_same c.mounts (is_packed_in c before k.epoch) k.free (lowest_free (descriptor before k.id.site k.process)) k.words k.begins xs (ap is_request by) ∙ by))
          where
            by : wants c.mounts (is_packed_in c before k.epoch) k.free k.words k.begins xs ≡ want.Look f w
            by = sym (asks_by c before p a k xs) ∙ says
