-- A look that was answered at the current request of its call, and as often as it was asked, has that answer waiting.
use Rattle.std.proofs.Common.{◌≡◌, ℕ, ◌+◌, ◌-◌, List, [], ◌∷◌, ◌++◌, length, take, None, refl, sym, ◌∙◌, ap, subst, ◌⊎◌, inl, inr}
use Rattle.locus_ids.specs.declared.config.Config.{Config}
use Rattle.locus_ids.specs.declared.ids.CallId.{CallId}
use Rattle.locus_ids.specs.declared.ids.EpochId.{EpochId}
use Rattle.locus_ids.specs.declared.ids.FileId.{FileId}
use Rattle.locus_ids.specs.declared.ids.Kind.{Kind}
use Rattle.locus_ids.specs.declared.ids.Stamp.{Stamp}
use Rattle.commit_graph.specs.Versions.{content_of}
use Rattle.trace_book.specs.declared.operation.Served.{Served}
use Rattle.trace_book.specs.declared.operation.Served.TheVariants as served
use Rattle.trace_book.specs.declared.operation.What.{What}
use Rattle.trace_book.specs.declared.record.Record.TheVariants as says
use Rattle.call_rules.specs.declared.answer.Answer.{Answer}
use Rattle.call_rules.specs.declared.want.Want.TheVariants as want
use Rattle.role_steps.specs.Views.{Told, Shown}
use Rattle.tree_laws.specs.of_the_run.Worlds.{Line}
use Rattle.tree_model.specs.Files.{kind_of_file}
use Rattle.tree_model.specs.Histories.{history}
use Rattle.tree_laws.specs.of_lawful_trace.Progress.{found_in, look_answer}
use Rattle.tree_laws.specs.Printed.{entries}
use Rattle.tree_laws.specs.Calls.{Waits, heard, log, request_number, script, tries}
use Rattle.tree_laws.specs.Following.{IsFollowed, MayTell}
use Rattle.tree_laws.specs.Frames.{VersionsStay}
use Rattle.tree_laws.specs.Instances.{Stands}
use Rattle.tree_laws.specs.Past.{LookRecord, Printed, WasLooked}
use Rattle.tree_laws.specs.Serials.{asked_now}
use Rattle.tree_laws.proofs.Asking.{Turns, waits_stays}
use Rattle.tree_laws.proofs.Awaiting.{by_own}
use Rattle.tree_laws.proofs.Hearing.{asking_named, take_own}
use Rattle.tree_laws.proofs.Scripts.{script_stays}
use Rattle.tree_laws.proofs.Versions.{versions_stay}
use Rattle.tree_laws.specs.Orders.ProcessAnswered.{WasAnswered}
use Rattle.tree_laws.proofs.Orders.ProcessCurrent.{reached, same_or_turns, turned}
use Rattle.store_laws.specs.Users.Rests.{LooksStand, Steady}
use Rattle.store_laws.proofs.Users.Staying.{With}

-- the look is asked, and this is the answer that waits
pub record LooksSo (c : Config) (t : List Line) (d : CallId) (file : FileId) (w : What) (result : Served) : Type 0 where
  pub waits : Waits c t d (look_answer c (entries t) file w result)
  pub asked : asked_now c t d ≡ want.Look file w

-- ---- the record ----

-- what was heard before the record, but for what the request is answered
before_it : (c : Config) (older : List Line) (call d : CallId) (number : ℕ) → call ≡ d → heard c older call ≡ log older call → number ≡ request_number older call → take (number - 1) (heard c older d) ≡ log older d
before_it c older call d number same nothing at = ap (λ (m : ℕ). take (m - 1) (heard c older d)) (at ∙ ap (request_number older) same) ∙ (ap (take (length (log older d) + 1 - 1)) (subst (λ (y : CallId). heard c older y ≡ log older y) same nothing) ∙ take_own (log older d))

look_now : (c : Config) (n : ℕ) (older : List Line) (x : Told) (e : EpochId) (d : CallId) (request times : ℕ) (file : FileId) (w : What) (result : Served) → MayTell c older x → Printed (LookRecord e d request times file w result) older x → LooksSo c (With n x older) d file w result
look_now c n older (Shown (says.Look at call number f asked gave)) e d request times file w result may p = record {
  waits = by_own call d (take (number - 1) (heard c older d) ++ look_answer c (entries older) f asked gave ∷ []) (heard c older d) p.call_is
      ∙ (ap (λ (xs : List Answer). xs ++ look_answer c (entries older) f asked gave ∷ []) (before_it c older call d number p.call_is may.in_time.asks.nothing_waits may.in_time.request_is)
      ∙ ap (λ (a : Answer). log older d ++ a ∷ []) (ap (λ (g : FileId). look_answer c (entries older) g asked gave) p.file_is ∙ (ap (λ (v : What). look_answer c (entries older) file v gave) p.what_is ∙ ap (look_answer c (entries older) file w) p.served_is)));
  asked = subst (λ (y : CallId). script c (entries older) y None (log older y) ≡ want.Look file w) p.call_is (may.in_time.asks.asked ∙ (ap (λ (g : FileId). want.Look g asked) p.file_is ∙ ap (want.Look file) p.what_is));
}
look_now c n older (Shown r) e d request times file w result may p = absurd p
look_now c n older x e d request times file w result may p = absurd p

-- it is one that answers
answered_of : (c : Config) (t : List Line) → IsFollowed c t → (e : EpochId) (d : CallId) (request times : ℕ) (file : FileId) (w : What) (result : Served) → WasLooked t e d request times file w result → (a : Answer) × WasAnswered c t d request times a
answered_of c [] h e d request times file w result was = absurd was
answered_of c (x ∷ older) h e d request times file w result (inr was) = (let z : (a : Answer) × WasAnswered c older d request times a = answered_of c older h.1 e d request times file w result was in (z.0, inr z.1))
answered_of c (x ∷ older) h e d request times file w result (inl now) = over x.told h.0 now
  where
    over : (y : Told) → MayTell c older y → Printed (LookRecord e d request times file w result) older y → (a : Answer) × WasAnswered c (With x.number y older) d request times a
    over (Shown (says.Look at call number f asked gave)) may p = (
      look_answer c (entries older) f asked gave,
      inl (record {
        step = p.call_is;
        request_is = ap (request_number older) (sym p.call_is) ∙ (sym may.in_time.request_is ∙ p.request_is);
        times_are = p.tries_are;
        answer_is = λ m. by_own call d (take (number - 1) (heard c older d) ++ look_answer c (entries older) f asked gave ∷ []) (heard c older d) p.call_is ∙ ap (λ (xs : List Answer). xs ++ look_answer c (entries older) f asked gave ∷ []) (before_it c older call d number p.call_is may.in_time.asks.nothing_waits may.in_time.request_is);
      }),
    )
    over (Shown r) may p = absurd p
    over y may p = absurd p

-- ---- and since ----

-- the answer is the same by the trace with a line more, where the served version stands
same_answer : (c : Config) (older newer : List Line) (file : FileId) (w : What) (result : Served) → VersionsStay c older newer → ((s : Stamp) → result ≡ served.At s → Stands c older file s) → look_answer c (entries older) file w result ≡ look_answer c (entries newer) file w result
same_answer c older newer file w (served.At s) versions stands = ap (λ (k : Kind). found_in k s w (content_of (history c (entries older)) file s)) (sym (versions.kinds file s (stands s refl))) ∙ ap (found_in (kind_of_file c (entries newer) file) s w) (sym (versions.contents file s (stands s refl)))
same_answer c older newer file w (served.No why) versions stands = refl

pub looks_so : (c : Config) (t : List Line) → IsFollowed c t → Steady c t → LooksStand c → (e : EpochId) (d : CallId) (request times : ℕ) (file : FileId) (w : What) (result : Served) → WasLooked t e d request times file w result → request ≡ request_number t d → times ≡ tries t d → LooksSo c t d file w result
looks_so c [] h steady rests e d request times file w result was same again = absurd was
looks_so c (x ∷ older) h steady rests e d request times file w result (inl now) same again = look_now c x.number older x.told e d request times file w result h.0 now
looks_so c (x ∷ older) h steady rests e d request times file w result (inr was) same again = over (same_or_turns x.number x.told older d) (λ p q. looks_so c older h.1 steady.1 rests e d request times file w result was p q)
  where
    turns : Turns x.told d → ⊥
    turns turn = (let z : (a : Answer) × WasAnswered c older d request times a = answered_of c older h.1 e d request times file w result was in turned c x.number x.told older d request times h.0 turn (reached c older h.1 d request times z.0 z.1) same again)

    versions : VersionsStay c older (x ∷ older)
    versions = versions_stay c x.number x.told older h.1 h.0 steady.0.fresh steady.0.order

    stands : (s : Stamp) → result ≡ served.At s → Stands c older file s
    stands s is_at = rests older e d request times file w s h.1 (subst (λ (y : Served). WasLooked older e d request times file w y) is_at was)

    over : ((log (With x.number x.told older) d ≡ log older d) × (tries (With x.number x.told older) d ≡ tries older d)) ⊎ Turns x.told d → (request ≡ request_number older d → times ≡ tries older d → LooksSo c older d file w result) → LooksSo c (x ∷ older) d file w result
    over (inr turn) later = absurd (turns turn)
    over (inl k) later = record { waits = stays (waits_stays c x.number x.told older d (look_answer c (entries older) file w result) h.0 old.waits); asked = ap (script c (entries (x ∷ older)) d None) k.0 ∙ (script_stays c x.number x.told older d None (log older d) h.1 h.0 (asking_named c (entries older) d None (log older d) (want.Look file w) old.asked refl) ∙ old.asked) }
      where
        old : LooksSo c older d file w result
        old = later (same ∙ ap (λ (xs : List Answer). length xs + 1) k.0) (again ∙ k.1)

        stays : Waits c (With x.number x.told older) d (look_answer c (entries older) file w result) ⊎ Turns x.told d → Waits c (x ∷ older) d (look_answer c (entries (x ∷ older)) file w result)
        stays (inl z) = z ∙ ap (λ (a : Answer). log (x ∷ older) d ++ a ∷ []) (same_answer c older (x ∷ older) file w result versions stands)
        stays (inr turn) = absurd (turns turn)
