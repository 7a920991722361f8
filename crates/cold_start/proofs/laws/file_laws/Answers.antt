use Rattle.cold_start.proofs.laws.file_laws.Goals as goal

pub returns : goal.returns
returns c = record {
  rules = c.a_view_keeps_the_rules_where_its_registry_does.ensures;
  again = c.a_written_view_is_read_again.ensures;
  back = c.a_registry_comes_back_from_its_view.ensures;
}
