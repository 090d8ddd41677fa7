-- What a call was answered was told: each answer that it has heard comes of a record that was a step of it.
use Rattle.std.proofs.Common.{◌≡◌, ℕ, ◌+◌, ◌-◌, Bool, true, false, cond, List, [], ◌∷◌, ◌++◌, length, take, drop, None, refl, sym, ◌∙◌, ap, subst, ◌⊎◌, inl, inr, append_assoc}
use Rattle.std.proofs.lemmas.List.{take-append-drop}
use Rattle.role_steps.proofs.of_plain_facts.Options.{some_same}
use Rattle.locus_ids.specs.declared.config.Config.{Config}
use Rattle.locus_ids.specs.declared.ids.CallId.{CallId}
use Rattle.locus_ids.specs.declared.ids.EpochId.{EpochId}
use Rattle.trace_book.specs.Same.{same_call}
use Rattle.trace_book.specs.declared.record.Record.{Record}
use Rattle.trace_book.specs.declared.record.Record.TheVariants as says
use Rattle.call_rules.specs.declared.answer.Answer.{Answer}
use Rattle.call_rules.specs.declared.answer.Answer.TheVariants as answer
use Rattle.call_rules.specs.declared.want.Want.{Want}
use Rattle.call_rules.specs.declared.want.Want.TheVariants as want
use Rattle.role_steps.specs.Views.{Told, Shown, LooksAgain}
use Rattle.the_run.specs.Worlds.{Line}
use Rattle.tree_model.specs.State.{instance_in}
use Rattle.tree_model.specs.Tree.{kept_in, tree_of}
use Rattle.lawful_trace.specs.Progress.{Answers, close_answer, granted_answer, look_answer, outcome_answer}
use Rattle.lawful_trace.specs.Tables.{call_of_act, call_of_release}
use Rattle.lawful_trace.specs.TreeRows.{IsCallIn}
use Rattle.tree_laws.specs.Calls.{Asks, heard, log, script}
use Rattle.tree_laws.specs.Following.{IsFollowed, MayTell}
use Rattle.tree_laws.specs.Past.{Was}
use Rattle.tree_laws.specs.Printed.{entries}
use Rattle.tree_laws.proofs.Asking.{StepRecord, heard_record}
use Rattle.tree_laws.proofs.Awaiting.{by_own, by_owner}
use Rattle.tree_laws.proofs.Fresh.{IsNamed}
use Rattle.tree_laws.proofs.Hearing.{asking_named, take_own}
use Rattle.tree_laws.proofs.Scripts.{in_stays, named_stays, script_stays}

abbrev With : ℕ → Told → List Line → List Line
With n x older = record { number = n; told = x } ∷ older

-- the lines are those of an earlier moment
abbrev IsLater : List Line → List Line → Type 0
IsLater s [] = s ≡ []
IsLater s (x ∷ t) = (s ≡ x ∷ t) ⊎ IsLater s t

-- the record that answered the call after these answers, when it had taken them all
pub record Source (c : Config) (t : List Line) (d : CallId) (ys : Answers) (a : Answer) : Type 0 where
  pub older : List Line
  pub number : ℕ
  pub what : Record
  pub followed : IsFollowed c older
  pub may : MayTell c older (Shown what)
  pub step : StepRecord (entries older) what d
  pub log_is : log older d ≡ ys
  pub new : heard c (With number (Shown what) older) d ≡ ys ++ a ∷ []
  pub named : IsNamed (entries t) d
  pub script_is : script c (entries t) d None ys ≡ script c (entries older) d None ys
  pub inside : (e : EpochId) → IsCallIn (entries older) e d → IsCallIn (entries t) e d
  pub later : IsLater (With number (Shown what) older) t

no_lines : (x : Line) (t : List Line) → x ∷ t ≡ [] → ⊥
no_lines x t e = cc

later_was : (P : List Line → Told → Type 0) (n : ℕ) (x : Told) (older t : List Line) → IsLater (With n x older) t → P older x → Was P t
later_was P n x older [] l p = absurd (no_lines (record { number = n; told = x }) older l)
later_was P n x older (y ∷ t) (inl e) p = subst (Was P) e (inl p)
later_was P n x older (y ∷ t) (inr l) p = inr (later_was P n x older t l p)

-- what the record says was told
pub stands : (c : Config) (t : List Line) (d : CallId) (ys : Answers) (a : Answer) (s : Source c t d ys a) (P : List Line → Told → Type 0) → P s.older (Shown s.what) → Was P t
stands c t d ys a s P p = later_was P s.number (Shown s.what) s.older t s.later p

-- ---- lists ----

head_is : (a b : Answer) (xs ys : Answers) → a ∷ xs ≡ b ∷ ys → a ≡ b
head_is a b xs ys e = cc

tail_is : (a b : Answer) (xs ys : Answers) → a ∷ xs ≡ b ∷ ys → xs ≡ ys
tail_is a b xs ys e = cc

none_is : (ys zs : Answers) (a : Answer) → [] ≡ ys ++ a ∷ zs → ⊥
none_is [] zs a e = cc
none_is (y ∷ ys) zs a e = cc

-- an answer is the last one, or stands before it
pub last_split : (xs ys zs : Answers) (a b : Answer) → xs ++ b ∷ [] ≡ ys ++ a ∷ zs → ((xs ≡ ys) × (b ≡ a)) ⊎ ((ws : Answers) × (xs ≡ ys ++ a ∷ ws))
last_split [] [] zs a b e = inl (refl, head_is b a [] zs e)
last_split (x ∷ xs) [] zs a b e = inr (xs, ap (λ (y : Answer). y ∷ xs) (head_is x a (xs ++ b ∷ []) zs e))
last_split [] (y ∷ ys) zs a b e = absurd (none_is ys zs a (tail_is b y [] (ys ++ a ∷ zs) e))
last_split (x ∷ xs) (y ∷ ys) zs a b e = over (last_split xs ys zs a b (tail_is x y (xs ++ b ∷ []) (ys ++ a ∷ zs) e))
  where
    first : x ≡ y
    first = head_is x y (xs ++ b ∷ []) (ys ++ a ∷ zs) e

    over : ((xs ≡ ys) × (b ≡ a)) ⊎ ((ws : Answers) × (xs ≡ ys ++ a ∷ ws)) → ((x ∷ xs ≡ y ∷ ys) × (b ≡ a)) ⊎ ((ws : Answers) × (x ∷ xs ≡ y ∷ ys ++ a ∷ ws))
    over (inl k) = inl (ap (λ (z : Answer). z ∷ xs) first ∙ ap (λ (zs : Answers). y ∷ zs) k.0, k.1)
    over (inr k) = inr (k.0, ap (λ (z : Answer). z ∷ xs) first ∙ ap (λ (zs : Answers). y ∷ zs) k.1)

-- ---- a step of a call ----

-- the call asked what was answered
pub step_asks : (c : Config) (older : List Line) (r : Record) (d : CallId) → MayTell c older (Shown r) → StepRecord (entries older) r d → (w : Want) × Asks c older d w
step_asks c older (says.Look e call request f w result) d may step = (want.Look f w, subst (λ (y : CallId). Asks c older y (want.Look f w)) step may.in_time.asks)
step_asks c older (says.Grant e call request i m f stamp ss) d may step = (may.in_time.opens.asks.wanted, subst (λ (y : CallId). Asks c older y may.in_time.opens.asks.wanted) step may.in_time.opens.asks.asks)
step_asks c older (says.Refuse e call request i m f why) d may step = (may.in_time.opens.asks.wanted, subst (λ (y : CallId). Asks c older y may.in_time.opens.asks.wanted) step may.in_time.opens.asks.asks)
step_asks c older (says.Act e i n o result) d may step = (want.Do i o, subst (λ (y : CallId). Asks c older y (want.Do i o)) (some_same may.in_time.call d (sym may.in_time.owner ∙ step)) may.in_time.asks)
step_asks c older (says.Release e i f stamp) d may step = (want.Close i, subst (λ (y : CallId). Asks c older y (want.Close i)) (some_same may.in_time.call d (sym may.in_time.owner ∙ step)) may.in_time.asks)
step_asks c older _ d may step = absurd step

-- it hears one answer more
step_heard : (c : Config) (n : ℕ) (older : List Line) (r : Record) (d : CallId) → MayTell c older (Shown r) → StepRecord (entries older) r d → heard c older d ≡ log older d → (b : Answer) × (heard c (With n (Shown r) older) d ≡ log older d ++ b ∷ [])
step_heard c n older (says.Look e call request f w result) d may step clear = (look_answer c (entries older) f w result, by_own call d _ (heard c older d) step ∙ ap (λ (xs : Answers). xs ++ look_answer c (entries older) f w result ∷ []) taken)
  where
    taken : take (request - 1) (heard c older d) ≡ log older d
    taken = ap (λ (m : ℕ). take (m - 1) (heard c older d)) (may.in_time.request_is ∙ ap (λ (y : CallId). length (log older y) + 1) step) ∙ (ap (take (length (log older d) + 1 - 1)) clear ∙ take_own (log older d))
step_heard c n older (says.Grant e call request i m f stamp ss) d may step clear = (granted_answer m i f stamp (kept_in c (entries older) e f), by_own call d _ (heard c older d) step ∙ ap (λ (xs : Answers). xs ++ granted_answer m i f stamp (kept_in c (entries older) e f) ∷ []) clear)
step_heard c n older (says.Refuse e call request i m f why) d may step clear = (answer.Refused why, by_own call d _ (heard c older d) step ∙ ap (λ (xs : Answers). xs ++ answer.Refused why ∷ []) clear)
step_heard c n older (says.Act e i k o result) d may step clear = (outcome_answer result, by_owner (call_of_act (entries older) e i k) d _ (heard c older d) step ∙ ap (λ (xs : Answers). xs ++ outcome_answer result ∷ []) clear)
step_heard c n older (says.Release e i f stamp) d may step clear = (close_answer stamp (instance_in (tree_of c e f.group (entries older)) i), by_owner (call_of_release (entries older) e i) d _ (heard c older d) step ∙ ap (λ (xs : Answers). xs ++ close_answer stamp (instance_in (tree_of c e f.group (entries older)) i) ∷ []) clear)
step_heard c n older _ d may step clear = absurd step

-- ---- each answer ----

one_later : (c : Config) (n : ℕ) (x : Told) (older : List Line) (d : CallId) (ys : Answers) (a : Answer) → IsFollowed c older → MayTell c older x → Source c older d ys a → Source c (With n x older) d ys a
one_later c n x older d ys a h may s = record {
  older = s.older;
  number = s.number;
  what = s.what;
  followed = s.followed;
  may = s.may;
  step = s.step;
  log_is = s.log_is;
  new = s.new;
  named = (s.named.0, named_stays c n x older d h may s.named ∙ s.named.1);
  script_is = script_stays c n x older d None ys h may s.named ∙ s.script_is;
  inside = λ e k. in_stays c n x older e d h may (s.inside e k);
  later = inr s.later;
}

own : (c : Config) (n : ℕ) (r : Record) (older : List Line) (d : CallId) (ys : Answers) (a : Answer) → IsFollowed c older → MayTell c older (Shown r) → StepRecord (entries older) r d → log older d ≡ ys → heard c (With n (Shown r) older) d ≡ ys ++ a ∷ [] → Source c (With n (Shown r) older) d ys a
own c n r older d ys a h may step is new = record {
  older = older;
  number = n;
  what = r;
  followed = h;
  may = may;
  step = step;
  log_is = is;
  new = new;
  named = (named.0, named_stays c n (Shown r) older d h may named ∙ named.1);
  script_is = script_stays c n (Shown r) older d None ys h may named;
  inside = λ e k. in_stays c n (Shown r) older e d h may k;
  later = inl refl;
}
  where
    asks : (w : Want) × Asks c older d w
    asks = step_asks c older r d may step

    named : IsNamed (entries older) d
    named = asking_named c (entries older) d None (log older d) asks.0 asks.1.asked asks.1.request

pub source : (c : Config) (t : List Line) → IsFollowed c t → (d : CallId) (ys zs : Answers) (a : Answer) → heard c t d ≡ ys ++ a ∷ zs → Source c t d ys a
source c [] h d ys zs a e = absurd (none_is ys zs a e)
source c (x ∷ older) h d ys zs a e = over x.told h.0 (λ ws k. source c older h.1 d ys ws a k) e
  where
    over : (y : Told) → MayTell c older y → ((ws : Answers) → heard c older d ≡ ys ++ a ∷ ws → Source c older d ys a) → heard c (With x.number y older) d ≡ ys ++ a ∷ zs → Source c (With x.number y older) d ys a
    over (Shown r) may before k = by (heard_record c r (entries older) d (heard c older d))
      where
        by : (heard c (With x.number (Shown r) older) d ≡ heard c older d) ⊎ StepRecord (entries older) r d → Source c (With x.number (Shown r) older) d ys a
        by (inl same) = one_later c x.number (Shown r) older d ys a h.1 may (before zs (sym same ∙ k))
        by (inr step) = at (last_split (log older d) ys zs a more.0 (sym more.1 ∙ k))
          where
            clear : heard c older d ≡ log older d
            clear = (step_asks c older r d may step).1.nothing_waits

            more : (b : Answer) × (heard c (With x.number (Shown r) older) d ≡ log older d ++ b ∷ [])
            more = step_heard c x.number older r d may step clear

            at : ((log older d ≡ ys) × (more.0 ≡ a)) ⊎ ((ws : Answers) × (log older d ≡ ys ++ a ∷ ws)) → Source c (With x.number (Shown r) older) d ys a
            at (inl s) = own c x.number r older d ys a h.1 may step s.0 (more.1 ∙ (ap (λ (xs : Answers). xs ++ more.0 ∷ []) s.0 ∙ ap (λ (b : Answer). ys ++ b ∷ []) s.1))
            at (inr s) = one_later c x.number (Shown r) older d ys a h.1 may (before s.0 (clear ∙ s.1))
    over (LooksAgain s call request times) may before k = by (same_call call d) k
      where
        by : (b : Bool) → cond b (take (request - 1) (heard c older d)) (heard c older d) ≡ ys ++ a ∷ zs → Source c (With x.number (LooksAgain s call request times) older) d ys a
        by false q = one_later c x.number (LooksAgain s call request times) older d ys a h.1 may (before zs q)
        by true q = one_later c x.number (LooksAgain s call request times) older d ys a h.1 may (before (zs ++ drop (request - 1) (heard c older d))
            (sym (take-append-drop (request - 1) (heard c older d)) ∙ (ap (λ (xs : Answers). xs ++ drop (request - 1) (heard c older d)) q ∙ append_assoc ys (a ∷ zs) (drop (request - 1) (heard c older d)))))
    over y may before k = one_later c x.number y older d ys a h.1 may (before zs k)
