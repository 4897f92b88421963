use Rattle.sum_basis.proofs.LikeRows.{like_rows_have_one_key}
use Rattle.sum_basis.proofs.laws.points.Goals as goal

pub returns : goal.returns
returns c = like_rows_have_one_key
