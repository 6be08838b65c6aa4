-- Where the callers are while a desk serves (the words are this project's choice).
use Rattle.std.specs.Prelude.{◌≡◌, ⊤}
use Rattle.replay_core.specs.declared.caller.Caller.{Caller}
use Rattle.replay_core.specs.declared.threads.place.Place.{Place}
use Rattle.replay_core.specs.declared.threads.place.Place.TheVariants.{There, Here}

-- the caller as it was when its thread was started, or as it is
abbrev pub started : {W : Type 0} → Place W → Caller
started (There handle) = handle.promise.before.value
started (Here caller) = caller

-- the caller is in a thread of its own
abbrev pub HasThread : {W : Type 0} → Place W → Type 0
HasThread (There handle) = ⊤
HasThread (Here caller) = ⊥

-- the caller's thread, if it has one, tells this watch
abbrev pub IsFor : {W : Type 0} → W → Place W → Type 0
IsFor watch (There handle) = handle.promise.watch.value ≡ watch
IsFor watch (Here caller) = ⊤
