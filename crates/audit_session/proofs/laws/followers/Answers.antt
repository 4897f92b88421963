use Rattle.audit_session.proofs.Followers.{followers_stay}
use Rattle.audit_session.proofs.laws.followers.Goals as goal

pub returns : goal.returns
returns c = followers_stay c.growing_tables.ensures.legal
