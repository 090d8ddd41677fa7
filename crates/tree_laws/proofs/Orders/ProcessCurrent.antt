-- A request that was answered, and is the current one of its call, has that answer waiting.
use Rattle.std.proofs.Common.{◌≡◌, ℕ, ◌+◌, ◌≤◌, ◌<◌, Bool, true, false, cond, List, [], ◌∷◌, ◌++◌, length, refl, sym, ◌∙◌, ap, subst, arith, ◌⊎◌, inl, inr, length-append}
use Rattle.locus_ids.specs.declared.config.Config.{Config}
use Rattle.locus_ids.specs.declared.ids.CallId.{CallId}
use Rattle.trace_book.specs.Same.{same_call}
use Rattle.call_rules.specs.declared.answer.Answer.{Answer}
use Rattle.role_steps.specs.Views.{Told, Shown, Takes, LooksAgain}
use Rattle.the_run.specs.Worlds.{Line}
use Rattle.tree_laws.specs.Calls.{log, tries, Waits, request_number}
use Rattle.tree_laws.specs.Following.{MayTell, IsFollowed}
use Rattle.tree_laws.proofs.Asking.{Turns, waits_stays}
use Rattle.tree_laws.proofs.Names.{same_call_eq, same_call_own}
use Rattle.tree_laws.specs.Orders.ProcessAnswered.{IsStep, WasAnswered}

abbrev With : ℕ → Told → List Line → List Line
With n x older = record { number = n; told = x } ∷ older

-- the call has come so far
abbrev pub Reached : List Line → CallId → ℕ → ℕ → Type 0
Reached t d request times = (request < request_number t d) ⊎ ((request ≡ request_number t d) × (times ≤ tries t d))

reached_told : (c : Config) (n : ℕ) (x : Told) (older : List Line) (d : CallId) (request times : ℕ) → MayTell c older x → Reached older d request times → Reached (With n x older) d request times
reached_told c n (Takes s it number k a) older d request times may r = at (same_call it d) r
  where
    more : length (log older d ++ a ∷ []) ≡ length (log older d) + 1
    more = length-append (log older d) (a ∷ [])

    at : (b : Bool) → Reached older d request times → (request < length (cond b (log older d ++ a ∷ []) (log older d)) + 1) ⊎ ((request ≡ length (cond b (log older d ++ a ∷ []) (log older d)) + 1) × (times ≤ cond b 1 (tries older d)))
    at true (inl below) = let m : length (log older d ++ a ∷ []) ≡ length (log older d) + 1 = more in let l : request < length (log older d) + 1 = below in inl (omega (arith, m, l))
    at true (inr same) = let m : length (log older d ++ a ∷ []) ≡ length (log older d) + 1 = more in let l : request ≡ length (log older d) + 1 = same.0 in inl (omega (arith, m, l))
    at false k = k
reached_told c n (LooksAgain s it number k) older d request times may r = at (same_call it d) refl r
  where
    at : (b : Bool) → same_call it d ≡ b → Reached older d request times → (request < request_number older d) ⊎ ((request ≡ request_number older d) × (times ≤ cond b k (tries older d)))
    at b e (inl below) = inl below
    at true e (inr same) = let m : k ≡ tries older d + 1 = may.times_are ∙ ap (λ (x : CallId). tries older x + 1) (same_call_eq it d e) in let l : times ≤ tries older d = same.1 in inr (same.0, omega (arith, m, l))
    at false e (inr same) = inr same
reached_told c n _ older d request times may r = r

step_same : (n : ℕ) (x : Told) (older : List Line) (d : CallId) → IsStep older x d → (log (With n x older) d ≡ log older d) × (tries (With n x older) d ≡ tries older d)
step_same n (Shown r) older d step = (refl, refl)
step_same n _ older d step = absurd step

-- what was answered the call has reached
pub reached : (c : Config) (t : List Line) → IsFollowed c t → (d : CallId) (request times : ℕ) (a : Answer) → WasAnswered c t d request times a → Reached t d request times
reached c [] h d request times a was = absurd was
reached c (x ∷ older) h d request times a (inr was) = reached_told c x.number x.told older d request times h.0 (reached c older h.1 d request times a was)
reached c (x ∷ older) h d request times a (inl now) = inr (sym now.request_is ∙ ap (λ (xs : List Answer). length xs + 1) (sym same.0), subst (λ (k : ℕ). times ≤ k) (sym same.1) (subst (λ (k : ℕ). times ≤ k) (sym now.times_are) (omega (arith))))
  where
    same : (log (With x.number x.told older) d ≡ log older d) × (tries (With x.number x.told older) d ≡ tries older d)
    same = step_same x.number x.told older d now.step

-- a turn of the call makes another request current
pub turned : (c : Config) (n : ℕ) (x : Told) (older : List Line) (d : CallId) (request times : ℕ) → MayTell c older x → Turns x d → Reached older d request times → request ≡ request_number (With n x older) d → times ≡ tries (With n x older) d → ⊥
turned c n (Takes s it number k a) older d request times may turn r same again = over r (same ∙ ap (λ (b : Bool). length (cond b (log older d ++ a ∷ []) (log older d)) + 1) (subst (λ (z : CallId). same_call it z ≡ true) turn (same_call_own it)))
  where
    more : length (log older d ++ a ∷ []) ≡ length (log older d) + 1
    more = length-append (log older d) (a ∷ [])

    over : Reached older d request times → request ≡ length (log older d ++ a ∷ []) + 1 → ⊥
    over (inl below) e = let m : length (log older d ++ a ∷ []) ≡ length (log older d) + 1 = more in let l : request < length (log older d) + 1 = below in omega (arith, m, l, e)
    over (inr at) e = let m : length (log older d ++ a ∷ []) ≡ length (log older d) + 1 = more in let l : request ≡ length (log older d) + 1 = at.0 in omega (arith, m, l, e)
turned c n (LooksAgain s it number k) older d request times may turn r same again = over r (again ∙ (ap (λ (b : Bool). cond b k (tries older d)) (subst (λ (z : CallId). same_call it z ≡ true) turn (same_call_own it)) ∙ (may.times_are ∙ ap (λ (z : CallId). tries older z + 1) turn)))
  where
    over : Reached older d request times → times ≡ tries older d + 1 → ⊥
    over (inl below) e = let l : request < request_number older d = below in let s : request ≡ request_number older d = same in omega (arith, l, s)
    over (inr at) e = let l : times ≤ tries older d = at.1 in omega (arith, l, e)
turned c n _ older d request times may turn r same again = turn

-- or it is as it was
pub same_or_turns : (n : ℕ) (x : Told) (older : List Line) (d : CallId) → ((log (With n x older) d ≡ log older d) × (tries (With n x older) d ≡ tries older d)) ⊎ Turns x d
same_or_turns n (Takes s it number k a) older d = over (same_call it d) (same_call_eq it d)
  where
    over : (b : Bool) → (b ≡ true → it ≡ d) → ((cond b (log older d ++ a ∷ []) (log older d) ≡ log older d) × (cond b 1 (tries older d) ≡ tries older d)) ⊎ (it ≡ d)
    over true e = inr (e refl)
    over false e = inl (refl, refl)
same_or_turns n (LooksAgain s it number k) older d = over (same_call it d) (same_call_eq it d)
  where
    over : (b : Bool) → (b ≡ true → it ≡ d) → ((log older d ≡ log older d) × (cond b k (tries older d) ≡ tries older d)) ⊎ (it ≡ d)
    over true e = inr (e refl)
    over false e = inl (refl, refl)
same_or_turns n _ older d = inl (refl, refl)

-- the answer to the current request waits
pub answer_waits : (c : Config) (t : List Line) → IsFollowed c t → (d : CallId) (request times : ℕ) (a : Answer) → WasAnswered c t d request times a → request ≡ request_number t d → times ≡ tries t d → Waits c t d a
answer_waits c [] h d request times a was same again = absurd was
answer_waits c (x ∷ older) h d request times a (inl now) same again = now.answer_is x.number ∙ ap (λ (xs : List Answer). xs ++ a ∷ []) (sym (step_same x.number x.told older d now.step).0)
answer_waits c (x ∷ older) h d request times a (inr was) same again = over (same_or_turns x.number x.told older d) (λ p q. answer_waits c older h.1 d request times a was p q)
  where
    over : ((log (With x.number x.told older) d ≡ log older d) × (tries (With x.number x.told older) d ≡ tries older d)) ⊎ Turns x.told d → (request ≡ request_number older d → times ≡ tries older d → Waits c older d a) → Waits c (With x.number x.told older) d a
    over (inr turn) later = absurd (turned c x.number x.told older d request times h.0 turn (reached c older h.1 d request times a was) same again)
    over (inl k) later = stays (waits_stays c x.number x.told older d a h.0 (later (same ∙ ap (λ (xs : List Answer). length xs + 1) k.0) (again ∙ k.1)))
      where
        stays : Waits c (With x.number x.told older) d a ⊎ Turns x.told d → Waits c (With x.number x.told older) d a
        stays (inl w) = w
        stays (inr turn) = absurd (turned c x.number x.told older d request times h.0 turn (reached c older h.1 d request times a was) same again)
