-- The row of replies lets nothing through that the folds refuse, of replies that don't tell that an epoch has changed.
use Rattle.std.proofs.Common.{◌≡◌, ℕ, ◌==◌, ◌&&◌, ◌||◌, nat_lt, Bool, true, false, cond, [], ◌∷◌, filter, length, Option, Some, None, refl, sym, ap, ◌∙◌}
use Rattle.std.specs.List.{find, list_all}
use Rattle.std.specs.Option.{option_map}
use Rattle.locus_ids.specs.declared.config.Config.{Config}
use Rattle.locus_ids.specs.declared.ids.CallId.{CallId}
use Rattle.locus_ids.specs.declared.ids.EpochId.{EpochId}
use Rattle.locus_ids.specs.declared.refusal.Refusal.TheVariants.{Changed}
use Rattle.trace_book.specs.Same.{same_call}
use Rattle.trace_book.specs.declared.record.Record.{Record}
use Rattle.trace_book.specs.declared.record.Record.TheVariants as rec
use Rattle.trace_book.specs.declared.reply.Reply.{Reply}
use Rattle.trace_book.specs.declared.reply.Reply.TheVariants as reply
use Rattle.call_rules.specs.declared.want.Want.{Want}
use Rattle.call_rules.specs.declared.want.Want.TheVariants as want
use Rattle.tree_model.specs.Calls.{waiting}
use Rattle.tree_model.specs.Epochs.{is_in}
use Rattle.tree_model.specs.Folds.{Trace}
use Rattle.tree_model.specs.Working.{list_of}
use Rattle.promises.specs.of_lawful_trace.CallRows.{MayAnswer, is_this}
use Rattle.promises.specs.of_lawful_trace.Progress.{answers, left_epoch, left_since, now_wants, unless_left, wants_after, wants_next}
use Rattle.promises.specs.Past.{CallSoFar, Past, asks, site_at}
use Rattle.promises.specs.After.{is_id, last_by}
use Rattle.promises.specs.Rows.{gives, is_changed, is_due, is_home, is_scripted, may_answer, waits_at}
use Rattle.past_laws.specs.Agreement.{Agrees, SaysGiven, waiting_as}
use Rattle.past_laws.specs.Along.{tells_changed}
use Rattle.past_laws.specs.Due.{SaysDue, accepts, is_after, last_of}
use Rattle.past_laws.proofs.BackOpens.{Caller, caller}
use Rattle.past_laws.proofs.BackSame.{reply_back}
use Rattle.past_laws.proofs.CallsAsks.{want_as}
use Rattle.past_laws.proofs.Changing.{found_passes, only_one}
use Rattle.past_laws.proofs.FilesFirst.{find_strict}
use Rattle.past_laws.proofs.Finding.{find_both, find_mapped}
use Rattle.past_laws.proofs.Names.{both, both_parts, call_eq, false_true, some_same}

-- Its site is still in the epoch of the call.
home_left : (c : Config) (before : Trace) (p : Past) (k : CallSoFar) → Agrees c before p → is_home p k ≡ true → left_epoch before (waiting_as k) ≡ None
home_left c before p k a h = over k.epoch refl
  where
    over : (o : Option EpochId) → k.epoch ≡ o → left_since before k.id.site k.epoch ≡ None
    over None e = ap (left_since before k.id.site) e
    over (Some d) e = ap (left_since before k.id.site) e ∙ ap (λ b. cond b None (Some d)) (ap (λ o. is_in o d) (sym (a.sites.epoch k.id.site))
        ∙ (both_parts (is_in (site_at p k.id.site).epoch d) true (ap (λ o. list_all (is_in (site_at p k.id.site).epoch) (list_of o)) (sym e) ∙ h)).0)

given_is : (w : Want) (r : Reply) → gives w r ≡ true → w ≡ want.Give r
given_is (want.Give g) r h = ap (λ x. want.Give x) (reply_back g r h)
given_is _ r h = false_true h

-- When it comes.
due_back : (before : Trace) (k : CallSoFar) → is_due (last_of before) k ≡ true → (nat_lt 0 (length k.answers) || is_after (accepts k.id) before) ≡ true
due_back [] k h = ap (λ b. b || false) h
due_back (r ∷ before) k h = over r.what h
  where
    turned : (x y : Bool) → (x || y) ≡ true → (y || x) ≡ true
    turned true true e = refl
    turned true false e = refl
    turned false true e = refl
    turned false false e = e

    or_first : (x y : Bool) → x ≡ true → (x || y) ≡ true
    or_first true y e = refl
    or_first false y e = false_true e

    over : (w : Record) → is_due (last_by w) k ≡ true → (nat_lt 0 (length k.answers) || accepts k.id w) ≡ true
    over (rec.Accept s q id words) g = turned (same_call id k.id) (nat_lt 0 (length k.answers)) g
    over (rec.Answer s q d (reply.No (Changed e))) g = or_first (nat_lt 0 (length k.answers)) _ g
    over (rec.Answer s q d (reply.No why)) g = or_first (nat_lt 0 (length k.answers)) _ g
    over (rec.Answer s q d r) g = or_first (nat_lt 0 (length k.answers)) _ g
    over _ g = or_first (nat_lt 0 (length k.answers)) _ g

-- The reply is not of a changed epoch: so it is the script's.

scripted_then : (c : Config) (p : Past) (k : CallSoFar) (r : Reply) → tells_changed r ≡ false → (is_scripted c p k r || is_changed p k r) ≡ true → is_scripted c p k r ≡ true
scripted_then c p k r other h = over (is_scripted c p k r) (none r other) h
  where
    none : (y : Reply) → tells_changed y ≡ false → is_changed p k y ≡ false
    none (reply.No (Changed e)) e' = false_true (sym e')
    none _ e' = refl

    over : (b : Bool) → is_changed p k r ≡ false → (b || is_changed p k r) ≡ true → b ≡ true
    over true e g = refl
    over false e g = false_true (sym e ∙ g)

due_so : (c : Config) (before : Trace) (site process : ℕ) (id : CallId) (r : Reply) → tells_changed r ≡ false → (nat_lt 0 (length (answers c before id)) || is_after (accepts id) before) ≡ true → SaysDue c before (rec.Answer site process id r)
due_so c before site process id (reply.No (Changed e)) other h = false_true (sym other)
due_so c before site process id _ other h = h

pub record Answers (c : Config) (before : Trace) (site process : ℕ) (id : CallId) (r : Reply) : Type 0 where
  pub row : MayAnswer c before site process id r
  pub given : SaysGiven c before (rec.Answer site process id r)
  pub due : SaysDue c before (rec.Answer site process id r)

pub back_answer : (c : Config) (before : Trace) (p : Past) (site process : ℕ) (id : CallId) (r : Reply) → Agrees c before p → p.last ≡ last_of before → tells_changed r ≡ false → may_answer c p site process id r ≡ true → Answers c before site process id r
back_answer c before p site process id r a last other h = over (caller c before p a id passes h)
  where
    passes : CallSoFar → Bool
    passes k = waits_at site process k && (is_scripted c p k r || is_changed p k r)

    over : Caller p id passes → Answers c before site process id r
    over it = record {
      row = record { caller = waiting_as it.call; waits = waits; given = r; gives = gives_it; text = refl };
      given = λ w e. ap (now_wants c before) (some_same w (waiting_as it.call) (sym e ∙ waits)) ∙ gives_it;
      due = due_so c before site process id r other (ap (λ d. nat_lt 0 (length (answers c before d)) || is_after (accepts d) before) (sym own)
          ∙ (ap (λ xs. nat_lt 0 (length xs) || is_after (accepts it.call.id) before) (sym heard) ∙ due_back before it.call (ap (λ l. is_due l it.call) (sym last) ∙ due.0)));
    }
      where
        own : it.call.id ≡ id
        own = call_eq it.call.id id (found_passes (is_id id) p.calls it.call it.found)

        found : find (is_id it.call.id) p.calls ≡ Some it.call
        found = ap (λ d. find (is_id d) p.calls) own ∙ it.found

        heard : it.call.answers ≡ answers c before it.call.id
        heard = a.calls.answers it.call found

        at : (waits_at site process it.call ≡ true) × ((is_scripted c p it.call r || is_changed p it.call r) ≡ true)
        at = both_parts (waits_at site process it.call) _ it.so

        waiting_now : (it.call.waits ≡ true) × (((it.call.id.site == site) && (it.call.process == process)) ≡ true)
        waiting_now = both_parts it.call.waits _ at.0

        scripted : is_scripted c p it.call r ≡ true
        scripted = scripted_then c p it.call r other at.1

        home : (is_home p it.call ≡ true) × ((is_due p.last it.call && gives (asks c p it.call) r) ≡ true)
        home = both_parts (is_home p it.call) _ scripted

        due : (is_due p.last it.call ≡ true) × (gives (asks c p it.call) r ≡ true)
        due = both_parts (is_due p.last it.call) _ home.1

        asked : CallSoFar → Bool
        asked k = k.waits && is_this site process id (waiting_as k)

        weaker : (k : CallSoFar) → asked k ≡ true → is_id id k ≡ true
        weaker k e = (both_parts ((k.id.site == site) && (k.process == process)) (same_call k.id id) (both_parts k.waits _ e).1).1

        waits : find (is_this site process id) (waiting before) ≡ Some (waiting_as it.call)
        waits = ap (find (is_this site process id)) (sym a.calls.waits)
            ∙ (find_mapped waiting_as (is_this site process id) (filter (λ (k : CallSoFar). k.waits) p.calls)
            ∙ ap (option_map waiting_as) (find_both (λ (k : CallSoFar). is_this site process id (waiting_as k)) (λ (k : CallSoFar). k.waits) p.calls
            ∙ find_strict asked (is_id id) weaker p.calls it.call (only_one (is_id id) p.calls it.call (a.calls.once id) it.found)
            (both it.call.waits _ waiting_now.0 (both ((it.call.id.site == site) && (it.call.process == process)) (same_call it.call.id id) waiting_now.1 (found_passes (is_id id) p.calls it.call it.found)))))

        gives_it : now_wants c before (waiting_as it.call) ≡ want.Give r
        gives_it = ap (λ o. unless_left o (wants_next c before it.call.id)) (home_left c before p it.call a home.0)
            ∙ (ap (wants_after c before it.call.id) (sym heard) ∙ (sym (want_as c before p a it.call found waiting_now.0 it.call.answers) ∙ given_is (asks c p it.call) r due.1))
