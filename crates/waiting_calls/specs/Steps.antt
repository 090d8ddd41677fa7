-- What becomes of a call: it asks, it is replied to, or it stays as it is.
use Rattle.role_steps.specs.Views.{Frame, Users, Outcome, quiet}
use Rattle.role_steps.specs.Requests.{asks, next_request}
use Rattle.role_steps.specs.Using.{replies}
use Rattle.role_steps.specs.declared.users.WaitingCall.{WaitingCall}
use Rattle.waiting_calls.specs.declared.step.Step.{Step}
use Rattle.waiting_calls.specs.declared.step.Step.TheVariants.{Asks, Replies, Stays}

abbrev pub after_step : Frame → WaitingCall → Step → Users → Outcome Users
after_step f w (Asks a) u = asks f (next_request w a) u
after_step f w (Replies r) u = replies f w r u
after_step f w Stays u = quiet u
