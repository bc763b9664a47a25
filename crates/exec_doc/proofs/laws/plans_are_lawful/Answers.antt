use Rattle.exec_doc.specs.Refusals.{document_value}
use Rattle.exec_doc.proofs.Lawful.{Laws, value_lawful}
use Rattle.exec_doc.proofs.laws.plans_are_lawful.Goals as goal

pub returns : goal.returns
returns c =
    let laws : Laws = record {
      graph = c.drafts_without_faults_have_lawful_graphs.ensures.lawful;
      topic = c.names_find_what_they_are_declared_as.ensures.topic;
      server = c.names_find_what_they_are_declared_as.ensures.server;
      plan = c.plans_without_faults_are_lawful.ensures;
    } in
    λ bytes plan says. value_lawful laws (document_value bytes) plan says
