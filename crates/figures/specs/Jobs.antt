-- The jobs of the code as jobs of the model.
use Rattle.std.specs.Prelude.{List, map}
use Rattle.model.specs.Jobs as Model
use Rattle.figures.specs.declared.Job.{Job}

abbrev pub as_job : Job → Model.Job
as_job j = record { number = j.number; work = j.work; deadline = j.deadline; bound = j.bound }

abbrev pub as_jobs : List Job → List Model.Job
as_jobs jobs = map as_job jobs
