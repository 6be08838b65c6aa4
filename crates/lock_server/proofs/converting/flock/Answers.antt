use Rattle.lock_server.proofs.converting.flock.Goals as goal

pub flock_or_refuse-requires-in-Stepwise : goal.flock_or_refuse-requires-in-Stepwise
flock_or_refuse-requires-in-Stepwise c = c.convert.ensures.room.places c.args.owner c.requires
