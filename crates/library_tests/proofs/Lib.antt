mod SeriesLaws
